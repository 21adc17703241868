use Rattle.std.proofs.Common.{rules, ◌∙◌}
use Rattle.std.proofs.lemmas.Iterator.{YieldsList-from_slice}
use Rattle.std.proofs.lemmas.Iterator.Search.{YieldsList-from_take_while}
use Rattle.std.proofs.lemmas.Iterator.Consumers.{count_from_yields_List}
use Rattle.script.specs.Words.{kind_of, same_kind}
use Rattle.script.proofs.Spans.{same_kind_is, span_is}
use Rattle.script.proofs.words.span_of.Goals as goal

pub returns-clause-value : goal.returns-clause-value
returns-clause-value c =
    count_from_yields_List _ _ c.count.ensures.ran (YieldsList-from_take_while _ (λ b. same_kind (kind_of b) c.args.kind) (YieldsList-from_slice c.args.bytes.now cc) c.take_while.ensures.closure c.take_while.ensures.done (λ x b q k. search (rules, same_kind_is))) ∙ span_is c.args.kind c.args.bytes.now
