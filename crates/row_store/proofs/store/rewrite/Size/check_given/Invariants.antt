use Rattle.std.proofs.Common.{◌≡◌, ◌&&◌, drop, nat_le}
use Rattle.rows.specs.Numbers.{total}
use Rattle.row_store.specs.Renewed.{given_records, given_bytes}
use Rattle.row_store.proofs.store.rewrite.Size.check_given.Given as goal

-- what is given from here on fits what is left just where all that is given fits
abbrev pub invariant-loop-row : goal.invariant-loop-row
invariant-loop-row g l =
    let gs = g.C.Changes.given l.changes in
    (nat_le (total given_records (drop l.row gs)) l.left.records && nat_le (total given_bytes (drop l.row gs)) l.left.bytes) ≡ (nat_le (total given_records gs) l.fn.self.records && nat_le (total given_bytes gs) l.fn.self.bytes)
