-- What places and marks tell of the rows that were asked for.
use Rattle.std.proofs.Common.{◌≡◌, ℕ, ◌<◌, Bool, true, false, not, ◌&&◌, ◌||◌, T, eqb, ltb, List, [], ◌∷◌, length, get_or, is_some, None, Option, sym, refl, ap, ◌∙◌, arith, ltb→lt, lt→ltb, T_not}
use lib.Dec.{not_T}
use Rattle.std.proofs.lemmas.List.{nil_from_length}
use Rattle.std.proofs.lemmas.Bool.{not-true, not-false, eqb-true}
use Rattle.std.specs.List.{list_all}
use Rattle.rows.specs.Numbers.{any, member}
use Rattle.rows.specs.Rows.{Row}
use Rattle.rows.proofs.Tests.{both, from-both, is_true, is_false, from-true, from_false, any_at, at-any}
use Rattle.packed_layout.specs.Layout.{Entry}
use Rattle.project.specs.Rescan.{merged, rows_fault, numbers, unasked}
use Rattle.module_table.specs.Drafts.{blank, places_by}
use Rattle.std.proofs.Math.Bool.{or-true, and-true, not-not}
use Rattle.module_table.proofs.Listing.{listed_at, listed-length, listed-none}

-- Tests of the numbers in a list.

any_same : (p q : ℕ → Bool) → ((n : ℕ) → p n ≡ q n) → (xs : List ℕ) → any p xs ≡ any q xs
any_same p q same [] = refl
any_same p q same (x ∷ xs) = ap (λ b. b || any p xs) (same x) ∙ ap (λ b. q x || b) (any_same p q same xs)

all_unless_any : (p q : ℕ → Bool) → ((n : ℕ) → p n ≡ q n) → (xs : List ℕ) → list_all p xs ≡ not (any (λ n. not (q n)) xs)
all_unless_any p q same [] = refl
all_unless_any p q same (x ∷ xs) = ap (λ b. b && list_all p xs) (same x) ∙ ap (λ b. q x && b) (all_unless_any p q same xs) ∙ by (q x)
  where
    by : (b : Bool) → (b && not (any (λ n. not (q n)) xs)) ≡ not (not b || any (λ n. not (q n)) xs)
    by true = refl
    by false = refl

-- What was asked for.

module _ (held : ℕ) (places : List (Option ℕ)) (touched : List ℕ) (table : List Row) (es : List Entry)
    (size : length table ≡ held) (placed : places ≡ places_by (blank held) es) (fine : rows_fault table es ≡ None) where
  listed : places ≡ places_by (blank (length table)) es
  listed = placed ∙ ap (λ n. places_by (blank n) es) (sym size)

  is-listed : (r : ℕ) → is_some (get_or places r None) ≡ member r (numbers es)
  is-listed r = ap (λ ps. is_some (get_or ps r None)) listed ∙ listed_at table es fine r

  -- whether all touched rows have a place
  abbrev pub Placed : Bool
  Placed = list_all (λ t. is_some (get_or places t None)) touched

  all_listed : Placed ≡ not (any (λ t. not (member t (numbers es))) touched)
  all_listed = all_unless_any (λ t. is_some (get_or places t None)) (λ t. member t (numbers es)) is-listed touched

  -- a touched row has no place
  pub not-placed : Placed ≡ false → unasked table touched (numbers es) ≡ true
  not-placed h =
      ap (λ b. any (λ n. ltb n (length table) && not (member n touched)) (numbers es) || (b || (eqb (length touched) 0 && not (eqb (length (numbers es)) 0)))) (not-false _ (sym all_listed ∙ h))
      ∙ or-true (any (λ n. ltb n (length table) && not (member n touched)) (numbers es))

  -- a row of the table that is not touched has one
  pub not-marked : (k : ℕ) → k < held → is_some (get_or places k None) ≡ true → member k touched ≡ false → unasked table touched (numbers es) ≡ true
  not-marked k l has none =
      let low : k < length table = omega arith in
      let there : T (member k (numbers es)) = from-true (sym (is-listed k) ∙ has) in
      let some = any_at (λ n. ltb n (length table) && not (member n touched)) (numbers es) k there (from-both (ltb k (length table)) (not (member k touched)) (lt→ltb k (length table) low) (from_false none)) in
      ap (λ b. b || (any (λ t. not (member t (numbers es))) touched || (eqb (length touched) 0 && not (eqb (length (numbers es)) 0)))) (is_true (any (λ n. ltb n (length table) && not (member n touched)) (numbers es)) some)

  -- all touched rows have a place, and no other row of the table
  module _ (all : Placed ≡ true) (marked : (k : ℕ) → k < held → is_some (get_or places k None) ≡ true → member k touched ≡ true) where
    none-untouched : any (λ n. ltb n (length table) && not (member n touched)) (numbers es) ≡ false
    none-untouched = is_false _ (not_T _ (λ some.
        let p = at-any (λ n. ltb n (length table) && not (member n touched)) (numbers es) some in
        let q = both (ltb p.0 (length table)) (not (member p.0 touched)) p.2 in
        let low : p.0 < length table = ltb→lt p.0 (length table) q.0 in
        T_not (member p.0 touched) q.1 (from-true (marked p.0 (omega arith) (is-listed p.0 ∙ is_true (member p.0 (numbers es)) p.1)))))

    only-further : unasked table touched (numbers es) ≡ (eqb (length touched) 0 && not (eqb (length (numbers es)) 0))
    only-further =
        ap (λ b. b || (any (λ t. not (member t (numbers es))) touched || (eqb (length touched) 0 && not (eqb (length (numbers es)) 0)))) none-untouched
        ∙ ap (λ b. b || (eqb (length touched) 0 && not (eqb (length (numbers es)) 0))) (not-true _ (sym all_listed ∙ all))

    -- where some row was touched, further rows are welcome
    pub some-touched : eqb (length touched) 0 ≡ false → unasked table touched (numbers es) ≡ false
    some-touched h = only-further ∙ ap (λ b. b && not (eqb (length (numbers es)) 0)) h

    -- where none was, the list must be empty
    pub none-touched : eqb (length touched) 0 ≡ true → eqb (length places) held ≡ not (unasked table touched (numbers es))
    none-touched h =
        let nil : touched ≡ [] = nil_from_length touched (eqb-true (length touched) 0 h) in
        let low : T (not (any (λ n. ltb n (length table)) (numbers es))) = from_false (any_same (λ n. ltb n (length table)) (λ n. ltb n (length table) && not (member n touched)) (λ n. sym (ap (λ ts. ltb n (length table) && not (member n ts)) nil ∙ and-true (ltb n (length table)))) (numbers es) ∙ none-untouched) in
        ap (λ ps. eqb (length ps) held) listed ∙ ap (λ n. eqb n held) (listed-length table es) ∙ ap (eqb (length (merged table es))) (sym size)
        ∙ listed-none table es fine low
        ∙ sym (ap not (only-further ∙ ap (λ b. b && not (eqb (length (numbers es)) 0)) h) ∙ not-not (eqb (length (numbers es)) 0))
