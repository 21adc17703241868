use Rattle.std.proofs.Common.{sym, ◌∙◌, arith}
use Rattle.packed.proofs.Imports.{imports-step}
use Rattle.packed.proofs.view.Imports.read.Goals as goal

pub loop-i-preserved : goal.loop-i-preserved
loop-i-preserved c = sym (imports-step _ _ c.loop-i.rest.now _ _ c.in_ok-rest.ensures (omega arith)) ∙ c.loop-i.invariant
