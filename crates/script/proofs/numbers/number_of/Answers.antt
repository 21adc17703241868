use Rattle.std.proofs.Common.{rules, ◌∙◌, refl}
use Rattle.std.proofs.lemmas.Iterator.{YieldsList-from_slice}
use Rattle.script.specs.Words.{pushed, digits_after}
use Rattle.script.proofs.Spans.{number_is}
use Rattle.script.proofs.Tries.{tried}
use Rattle.script.proofs.numbers.number_of.Goals as goal

pub returns : goal.returns
returns c =
    let is = tried _ (λ x. x.now) _ pushed digits_after _ (λ a. refl) (λ a x xs. refl) (λ a x r q k. search rules) _ 0 (YieldsList-from_slice c.args.word.now cc) _ c.try_fold.ensures.ran ∙ number_is c.args.word.now c.if-is_empty.ensures in search (rules, is)
