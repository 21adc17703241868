use Rattle.std.proofs.Common.{rules}
use Rattle.script.proofs.Plain.{facts-plain}
use Rattle.script.proofs.line.row_line.Goals as goal

pub returns-in_err-set_all : goal.returns-in_err-set_all
returns-in_err-set_all c = let e = facts-plain c.default.result c.default.ensures in search (rules, e)

pub returns : goal.returns
returns c = let e = facts-plain c.default.result c.default.ensures in search (rules, e)
