-- The rows after a rewrite: how many there are, and how many import records they have.
use Rattle.std.proofs.Common.{◌≡◌, ℕ, zero, suc, ◌+◌, ◌-◌, ◌<◌, ◌≤◌, true, List, [], ◌∷◌, length, get_or, drop, is_some, Some, None, Option, sym, refl, ap, ◌∙◌, ⊎_elim, arith}
use Rattle.std.specs.List.{slice_get}
use Rattle.std.proofs.lemmas.List.{length-append, length-drop, get_or-drop}
use Rattle.std.proofs.lemmas.Option.{slice_get-get_or}
use Rattle.std.proofs.lemmas.Bool.{and_parts, cases_lt, false≢true}
use Rattle.rows.specs.Numbers.{all_of, total}
use Rattle.rows.specs.Rows.{Row, nowhere}
use Rattle.project.specs.Rescan.{records_of}
use Rattle.row_store.specs.Renewed.{change_at, coming, renewed, given_records, given_bytes, fresh}
use Rattle.row_store.proofs.Totals.{total-append}
use Rattle.row_store.proofs.Merging.{coming-records}

-- one row comes of a row, and of a row that is given
comes-held : (old g : Option Row) (r : Row) → old ≡ Some r → length (coming old g) ≡ 1
comes-held None g r e = cc
comes-held (Some q) None r e = refl
comes-held (Some q) (Some p) r e = refl

comes-given : (old g : Option Row) → is_some g ≡ true → length (coming old g) ≡ 1
comes-given old None e = absurd (false≢true e)
comes-given old (Some q) e = refl

module _ (rows : List Row) where
  -- there are as many rows from number n on as things that are given, if a row is given wherever none is
  pub renewed-from : (n : ℕ) (gs : List (Option Row)) → ((k : ℕ) → k < length gs → length rows ≤ n + k → is_some (change_at gs k) ≡ true) → length (renewed rows n gs) ≡ length gs
  renewed-from n [] all = refl
  renewed-from n (g ∷ gs) all =
      let rest : length (renewed rows (n + 1) gs) ≡ length gs = renewed-from (n + 1) gs (λ k lt le. all (suc k) (omega arith) (omega arith)) in
      let one : length (coming (slice_get rows n) g) ≡ 1 = ⊎_elim (λ (lt : n < length rows). comes-held (slice_get rows n) g (get_or rows n nowhere) (slice_get-get_or rows n nowhere lt)) (λ (le : length rows ≤ n). comes-given (slice_get rows n) g (all 0 (omega arith) (omega arith))) (cases_lt n (length rows)) in
      length-append (coming (slice_get rows n) g) (renewed rows (n + 1) gs) ∙ omega (arith, one, rest)

  -- as many rows as things that are given, if each further one is a row
  pub renewed-length : (gs : List (Option Row)) → ((k : ℕ) → length rows ≤ k → k < length gs → is_some (change_at gs k) ≡ true) → length (renewed rows 0 gs) ≡ length gs
  renewed-length gs all = renewed-from 0 gs (λ k lt le. all k (omega arith) lt)

  -- the same, by a test of what is given for the further rows
  pub renewed-length-by : (gs : List (Option Row)) → all_of is_some (drop (length rows) gs) ≡ true → length (renewed rows 0 gs) ≡ length gs
  renewed-length-by gs t =
      renewed-length gs
      (λ k le lt. let past : length rows + (k - length rows) ≡ k = omega arith in
      let here : k - length rows < length (drop (length rows) gs) = simp length-drop (omega arith) in
      sym (ap is_some (get_or-drop (length rows) gs (k - length rows) None ∙ ap (change_at gs) past)) ∙ every (drop (length rows) gs) (k - length rows) t here)
    where
      every : (os : List (Option Row)) (i : ℕ) → all_of is_some os ≡ true → i < length os → is_some (change_at os i) ≡ true
      every [] i w lt = absurd (omega arith)
      every (o ∷ os) zero w lt = (and_parts (is_some o) _ w).0
      every (o ∷ os) (suc i) w lt = every os i (and_parts (is_some o) _ w).1 (omega arith)

  records-from : (n : ℕ) (gs : List (Option Row)) → total records_of (renewed rows n gs) ≤ total records_of (drop n rows) + total given_records gs
  records-from n [] = omega arith
  records-from n (g ∷ gs) =
      let rest = records-from (n + 1) gs in
      let here = coming-records rows n g in
      let sum = total-append records_of (coming (slice_get rows n) g) (renewed rows (n + 1) gs) in
      omega arith

  -- no more import records than were held and are given
  pub renewed-records : (gs : List (Option Row)) → total records_of (renewed rows 0 gs) ≤ total records_of rows + total given_records gs
  renewed-records gs = records-from 0 gs

  -- no more bytes of names than are given
  pub fresh-within : (gs : List (Option Row)) → fresh rows gs ≤ total given_bytes gs
  fresh-within gs = falls (length rows) gs
    where
      falls : (k : ℕ) (os : List (Option Row)) → total given_bytes (drop k os) ≤ total given_bytes os
      falls zero os = omega arith
      falls (suc k) [] = omega arith
      falls (suc k) (o ∷ os) = let h = falls k os in omega arith
