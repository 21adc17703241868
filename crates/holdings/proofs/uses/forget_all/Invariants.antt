use Rattle.std.proofs.Common.{◌≡◌}
use Rattle.holdings.proofs.Emptying.{cleared_below}
use Rattle.holdings.proofs.uses.forget_all.Given as goal

abbrev pub invariant-loop-tablet : goal.invariant-loop-tablet
invariant-loop-tablet g l =
    let was = g.S.Holdings.state l.initial.store in
    g.S.Holdings.state l.store ≡ record { held = cleared_below was.held l.tablet; most = was.most }
