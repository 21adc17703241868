-- What one row more of a rewrite takes, and what is left for those to come.
use Rattle.std.proofs.Common.{◌≡◌, ℕ, zero, suc, ◌+◌, ◌<◌, ◌≤◌, List, [], ◌∷◌, ◌++◌, length, drop, Some, None, Option, sym, refl, ap, ◌∙◌, add-one, append_assoc, length-append, arith}
use Rattle.std.specs.List.{slice_get}
use Rattle.std.proofs.lemmas.List.{append-nil, drop_more, drop_all}
use Rattle.rows.specs.Numbers.{total}
use Rattle.rows.specs.Rows.{Row}
use Rattle.project.specs.Rescan.{records_of}
use Rattle.row_store.specs.Renewed.{change_at, coming, renewed, given_records, given_bytes, new_bytes, fresh}
use Rattle.row_store.proofs.Totals.{total-append}

-- what comes of a row: at most one row, and no more import records than were there and are given
coming-few : (old g : Option Row) → length (coming old g) ≤ 1
coming-few None None = omega arith
coming-few (Some r) None = omega arith
coming-few old (Some q) = omega arith

coming-records_at : (rows : List Row) (n : ℕ) (g : Option Row) → total records_of (coming (slice_get rows n) g) + total records_of (drop (suc n) rows) ≤ total records_of (drop n rows) + given_records g
coming-records_at [] zero None = omega arith
coming-records_at [] zero (Some q) = omega arith
coming-records_at [] (suc n) None = omega arith
coming-records_at [] (suc n) (Some q) = omega arith
coming-records_at (r ∷ rs) zero None = omega arith
coming-records_at (r ∷ rs) zero (Some q) = omega arith
coming-records_at (r ∷ rs) (suc n) g = coming-records_at rs n g

pub coming-records : (rows : List Row) (n : ℕ) (g : Option Row) → total records_of (coming (slice_get rows n) g) + total records_of (drop (n + 1) rows) ≤ total records_of (drop n rows) + given_records g
coming-records rows n g = rw add-one (coming-records_at rows n g)

-- the bytes of names: none for a row that is there
fresh_at : (rows : List Row) (n : ℕ) (g : Option Row) (gs : List (Option Row)) → fresh (drop n rows) (g ∷ gs) ≡ new_bytes (slice_get rows n) g + fresh (drop (suc n) rows) gs
fresh_at [] zero g gs = refl
fresh_at [] (suc n) g gs = refl
fresh_at (r ∷ rs) zero g gs = omega arith
fresh_at (r ∷ rs) (suc n) g gs = fresh_at rs n g gs

pub fresh-more : (rows : List Row) (n : ℕ) (g : Option Row) (gs : List (Option Row)) → fresh (drop n rows) (g ∷ gs) ≡ new_bytes (slice_get rows n) g + fresh (drop (n + 1) rows) gs
fresh-more rows n g gs = rw add-one (fresh_at rows n g gs)

pub new-within : (old g : Option Row) → new_bytes old g ≤ given_bytes g
new-within None g = omega arith
new-within (Some r) g = omega arith

-- what is given from a number on, one number on
module _ (gs : List (Option Row)) (n : ℕ) (g : Option Row) (lt : n < length gs) (e : g ≡ change_at gs n) where
  pub given-more : drop n gs ≡ g ∷ drop (n + 1) gs
  given-more = drop_more gs n None lt ∙ ap (λ x. x ∷ drop (n + 1) gs) (sym e)

  pub total-more : (f : Option Row → ℕ) → total f (drop n gs) ≡ f g + total f (drop (n + 1) gs)
  total-more f = ap (total f) given-more

-- from past the last number on nothing is given
module _ (gs : List (Option Row)) (n : ℕ) (le : length gs ≤ n) where
  pub total-all : (f : Option Row → ℕ) → total f (drop n gs) ≡ 0
  total-all f = ap (total f) (drop_all n gs le)

  pub fresh-all : (rows : List Row) → fresh (drop n rows) (drop n gs) ≡ 0
  fresh-all rows = ap (fresh (drop n rows)) (drop_all n gs le) ∙ ap (total given_bytes) (drop_all (length (drop n rows)) [] (omega arith))

-- where a refill stands before the row of a number: the rows and the bytes of names so far, and those to come
module _ (rows : List Row) (gs : List (Option Row)) (first : ℕ) where
  pub record Refilled (so_far : List Row) (written n : ℕ) : Type 0 where
    pub merges : so_far ++ renewed rows n (drop n gs) ≡ renewed rows 0 gs
    pub few : length so_far ≤ n
    pub held : total records_of so_far + (total records_of (drop n rows) + total given_records (drop n gs)) ≤ total records_of rows + total given_records gs
    pub fresh : written + fresh (drop n rows) (drop n gs) ≡ first + fresh rows gs
    pub within : written + total given_bytes (drop n gs) ≤ first + total given_bytes gs

  -- at the first number, and past the last one
  pub refilled-none : Refilled [] first 0
  refilled-none = record { merges = refl; few = omega arith; held = omega arith; fresh = refl; within = omega arith }

  pub refilled-all : (so_far : List Row) (written n : ℕ) → Refilled so_far written n → length gs ≤ n → (so_far ≡ renewed rows 0 gs) × (written ≡ first + fresh rows gs)
  refilled-all so_far written n m le =
      let none = fresh-all gs n le rows in let t = m.fresh in (
        sym (append-nil so_far) ∙ ap (λ hs. so_far ++ renewed rows n hs) (sym (drop_all n gs le)) ∙ m.merges,
        omega arith,
      )

  module _ (so_far : List Row) (written n : ℕ) (g : Option Row) (m : Refilled so_far written n) (lt : n < length gs) (e : g ≡ change_at gs n) (now : List Row) (same : now ≡ rows) where
    -- there is room for the row
    pub records-fit : total records_of so_far + total records_of (coming (slice_get now n) g) ≤ total records_of rows + total given_records gs
    records-fit =
        let one = ap (λ (rs : List Row). total records_of (coming (slice_get rs n) g)) same in
        let a = coming-records rows n g in let b = total-more gs n g lt e given_records in let h = m.held in omega arith

    -- and for its names
    pub bytes-fit : written + given_bytes g ≤ first + total given_bytes gs
    bytes-fit = let b = total-more gs n g lt e given_bytes in let h = m.within in omega arith

    -- the row is added
    pub refilled-more : (so_far' : List Row) (written' : ℕ) → so_far' ≡ so_far ++ coming (slice_get now n) g → written' ≡ written + new_bytes (slice_get now n) g → Refilled so_far' written' (n + 1)
    refilled-more so_far' written' r w =
        let one = coming (slice_get rows n) g in
        let grows : so_far' ≡ so_far ++ one = r ∙ ap (λ (rs : List Row). so_far ++ coming (slice_get rs n) g) same in
        let wrote = ap (λ (rs : List Row). new_bytes (slice_get rs n) g) same in
        let many = ap length grows ∙ length-append so_far one in
        let few = coming-few (slice_get rows n) g in
        let sum = ap (total records_of) grows ∙ total-append records_of so_far one in
        let a = coming-records rows n g in
        let b = total-more gs n g lt e given_records in
        let d = total-more gs n g lt e given_bytes in
        let new = new-within (slice_get rows n) g in
        let later = ap (fresh (drop n rows)) (given-more gs n g lt e) ∙ fresh-more rows n g (drop (n + 1) gs) in
        let last = m.few in let h = m.held in let t = m.fresh in let u = m.within in
        record {
          merges = ap (λ xs. xs ++ renewed rows (n + 1) (drop (n + 1) gs)) grows ∙ append_assoc so_far one (renewed rows (n + 1) (drop (n + 1) gs)) ∙ ap (λ hs. so_far ++ renewed rows n hs) (sym (given-more gs n g lt e)) ∙ m.merges;
          few = omega arith;
          held = omega arith;
          fresh = omega arith;
          within = omega arith;
        }
