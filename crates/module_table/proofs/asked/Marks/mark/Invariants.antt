use Rattle.std.proofs.Common.{◌≡◌, ℕ, ◌<◌, ◌≤◌, false, length, get_or, take, vec_items, vec_capacity}
use Rattle.rows.specs.Numbers.{member}
use Rattle.module_table.proofs.asked.Marks.mark.Given as goal

-- those touched so far are marked
abbrev pub invariant-loop-row : goal.invariant-loop-row
invariant-loop-row l = record {
  roomy : 65536 ≤ vec_capacity l.self-inside.rows;
  sized : length (vec_items l.self-inside.rows) ≡ l.count;
  marked : (r : ℕ) → r < l.count → get_or (vec_items l.self-inside.rows) r false ≡ member r (take l.row-index l.touched);
}
