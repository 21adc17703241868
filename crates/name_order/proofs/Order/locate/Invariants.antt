use Rattle.std.proofs.Common.{◌-◌, ◌≤◌, vec_items, vec_len}
use Rattle.name_order.specs.Orders.{named, IsOrder}
use Rattle.name_order.proofs.Halving.{Halved}
use Rattle.name_order.proofs.Order.locate.Given as goal

-- in an order, the rows below `low` have names before the name, and those from `high` on have names after it
abbrev pub invariant-loop-low : goal.invariant-loop-low
invariant-loop-low g l =
    (l.low ≤ l.high) × (l.high ≤ vec_len l.self.rows)
    × (IsOrder (g.N.Names.names l.names) (vec_items l.self.rows) → Halved (named (g.N.Names.names l.names)) l.name (vec_items l.self.rows) l.low l.high)

abbrev pub decreases-loop-low : goal.decreases-loop-low
decreases-loop-low g l = l.high - l.low
