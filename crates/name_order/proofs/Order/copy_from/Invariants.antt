use Rattle.std.proofs.Common.{◌≡◌, take, vec_items, vec_len, vec_capacity}
use Rattle.name_order.proofs.Order.copy_from.Given as goal

-- the rows so far are there, and the memory is what it was
abbrev pub invariant-loop-row : goal.invariant-loop-row
invariant-loop-row l =
    (vec_items l.self.rows ≡ take l.row-index (vec_items l.other.rows))
    × (vec_len l.self.rows ≡ l.row-index)
    × (vec_capacity l.self.rows ≡ vec_capacity l.initial.self.rows)
