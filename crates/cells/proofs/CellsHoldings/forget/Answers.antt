use Rattle.std.proofs.Common.{◌+◌, ◌-◌, ap, arith}
use Rattle.cells.proofs.Cleared.{Forgets, written, forgets}
use Rattle.cells.proofs.CellsHoldings.forget.Goals as goal
use Rattle.cells.proofs.CellsHoldings.forget.Goals.{After-clear}

emptied : (c : After-clear) → let cells = c.args.self.now.cells in let start = c.place-start.result in Forgets cells.items (written cells.items c.deref_mut.result.now c.clear.new.cells start (start + c.from.result - start) cells.len) c.args.tablet c.clear.result
emptied c =
    let store = c.args.self.now in
    let pair = c.in-Some.ensures.pair in
    rw c.clear.ensures.full (
    forgets store.cells.items _ _ c.args.tablet c.place-start.result _ _ (omega (arith, pair.0)) (omega (arith, pair.0, pair.1)) (omega arith) store.long store.cells.ok.0 c.deref_mut.ensures.value c.clear.ensures.none
    )

pub overflow_sub-self : goal.overflow_sub-self
overflow_sub-self c = omega (arith, (emptied (goal.at.overflow_sub-self c).After-clear).fewer)

pub invariant_of-self-clause-counted : goal.invariant_of-self-clause-counted
invariant_of-self-clause-counted c = omega (arith, (emptied (goal.at.invariant_of-self-clause-counted c).After-clear).fewer)

pub returns-in-Some : goal.returns-in-Some
returns-in-Some c = ap (λ m. record { held = m; most = c.args.self.now.most }) (emptied (goal.at.returns-in-Some c).After-clear).gone
