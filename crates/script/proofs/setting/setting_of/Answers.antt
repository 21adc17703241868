use Rattle.std.proofs.Common.{rules, ◌≡◌, ◌∙◌, arith, codes, ap, sym}
use Rattle.std.proofs.lemmas.Slice.Eq.{text_from_reads}
use Rattle.script.specs.Lines.{setting_of}
use Rattle.script.proofs.Names.{none-set}
use Rattle.script.proofs.setting.setting_of.Goals as goal

pub returns-in-external : goal.returns-in-external
returns-in-external c = let e : c.args.word.now ≡ codes "external" = text_from_reads c.args.word.now (codes "external") (omega arith) (search rules) in ap setting_of (sym e)

pub returns-in_default : goal.returns-in_default
returns-in_default c = c.mark_of.ensures ∙ none-set c.args.word.now (λ e. grind arith) (λ e. grind arith) (λ e. grind arith) (λ e. grind arith) (λ e. grind arith) (λ e. grind arith)
