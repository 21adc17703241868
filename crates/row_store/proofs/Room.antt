-- What the test of the room tells.
use Rattle.std.proofs.Common.{◌≡◌, ℕ, ◌+◌, ◌-◌, ◌≤◌, min, Bool, false, not, ◌&&◌, ◌||◌, ltb, leb, List, length, Option, ap, ◌∙◌, arith}
use Rattle.std.proofs.lemmas.Bool.{ltb-false, or_parts}
use Rattle.std.proofs.lemmas.Bool.Decides.{nat_tests}
use Rattle.rows.specs.Numbers.{total}
use Rattle.rows.specs.Rows.{Row}
use Rattle.project.specs.declared.Room.{Room}
use Rattle.project.specs.Rescan.{records_of}
use Rattle.row_store.specs.Renewed.{given_records, given_bytes, overfull}

test-is : (m l r k a w j b : ℕ) (x : Bool) → l ≤ m → k ≤ r → j ≤ w → x ≡ (leb a (r - k) && leb b (w - j)) → not x ≡ (ltb m l || (ltb r (k + a) || ltb w (j + b)))
test-is m l r k a w j b x few held wide e = ap not e ∙ grind (arith, nat_tests)

module _ (room : Room) (rows : List Row) (written : ℕ) (gs : List (Option Row)) where
  -- what is given does not fit what is left
  pub overfull-is : (k j : ℕ) (x : Bool) → k ≡ total records_of rows → j ≡ written → length gs ≤ min room.rows 4096 → k ≤ room.records → j ≤ room.bytes → x ≡ (leb (total given_records gs) (room.records - k) && leb (total given_bytes gs) (room.bytes - j)) → not x ≡ overfull room rows written gs
  overfull-is k j x e f few held wide t =
      test-is (min room.rows 4096) (length gs) room.records k (total given_records gs) room.bytes j (total given_bytes gs) x few held wide t
      ∙ ap (λ (n : ℕ). ltb (min room.rows 4096) (length gs) || (ltb room.records (n + total given_records gs) || ltb room.bytes (j + total given_bytes gs))) e
      ∙ ap (λ (n : ℕ). ltb (min room.rows 4096) (length gs) || (ltb room.records (total records_of rows + total given_records gs) || ltb room.bytes (n + total given_bytes gs))) f

  -- there is room for all that is given
  pub roomy : overfull room rows written gs ≡ false → (length gs ≤ min room.rows 4096) × (total records_of rows + total given_records gs ≤ room.records) × (written + total given_bytes gs ≤ room.bytes)
  roomy e =
      let p = or_parts (ltb (min room.rows 4096) (length gs)) _ e in
      let q = or_parts (ltb room.records (total records_of rows + total given_records gs)) _ p.1 in
      (ltb-false _ _ p.0, ltb-false _ _ q.0, ltb-false _ _ q.1)
