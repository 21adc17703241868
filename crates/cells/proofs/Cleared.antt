-- A tablet whose cells are emptied.
use Rattle.std.proofs.Common.{◌≡◌, ℕ, zero, suc, ◌+◌, ◌-◌, ◌<◌, ◌≤◌, List, ◌++◌, length, get_or, cond, ◌&&◌, eqb, leb, ltb, take, drop, replicate, is_some, count_by, None, Option, refl, ap, ◌∙◌, arith, rules, length-take-le, length-drop, get_or-drop}
use mathlib.Core.Path.{fun_ext}
use borrow.Rule.Slice.PartMut.{put_mid}
use Rattle.std.proofs.lemmas.Bool.Decides.{nat_tests}
use Rattle.std.proofs.lemmas.Grind.{common_steps}
use Rattle.std.proofs.lemmas.List.{take_at, length-replicate}
use Rattle.std.proofs.lemmas.Slice.{overwrites}
use Rattle.std.proofs.lemmas.List.Sums.{sum_by_more}
use Rattle.holdings.specs.Maps.{Map, rank, changed, cleared, sum_to, one, size}
use Rattle.holdings.proofs.Sizes.{sum_same, size-cleared}
use Rattle.cells.specs.Cells.{in_cells}

-- a cell after some cells in a row were emptied
get_or-emptied : (xs : List (Option ℕ)) (start k j : ℕ) → start + k ≤ length xs → get_or (put_mid start k xs (replicate k None)) j None ≡ cond (leb start j && ltb j (start + k)) None (get_or xs j None)
get_or-emptied xs start k j l = grind (arith, nat_tests, common_steps)

-- how many cells are full, counted along a list and by their places
count_cells : (xs : List (Option ℕ)) (n : ℕ) → n ≤ length xs → count_by is_some (take n xs) ≡ sum_to (λ v. one (get_or xs v None)) n
unfolding sum_to
count_cells xs zero l = refl
count_cells xs (suc n) l = grind (arith, sum_by_more one xs n None, count_cells xs n (omega arith))

module _ (xs : List (Option ℕ)) (t start k : ℕ) (tl : t < 16) (at : start ≡ rank t 0) (all : k ≡ 4096) (long : length xs ≡ 65536) where
  -- the pairs of the tablet are gone
  pub in_cells-emptied : in_cells (put_mid start k xs (replicate k None)) ≡ cleared (in_cells xs) t
  unfolding cleared
  in_cells-emptied = fun_ext (λ u. fun_ext (λ v. let e = get_or-emptied xs start k (rank u v) (omega arith) in grind (arith, nat_tests)))

  -- and no longer counted
  pub size-emptied : size (in_cells (put_mid start k xs (replicate k None))) + count_by is_some (take k (drop start xs)) ≡ size (in_cells xs)
  size-emptied =
      let now = ap size in_cells-emptied in
      let gone = size-cleared (in_cells xs) t tl in
      let counted = count_cells (drop start xs) k (omega (arith, length-drop start xs)) in
      let each : sum_to (λ v. one (get_or (drop start xs) v None)) k ≡ sum_to (λ v. one (in_cells xs t v)) 4096 =
      ap (sum_to (λ v. one (get_or (drop start xs) v None))) all ∙ sum_same _ _ 4096 (λ v l. grind (arith, nat_tests, get_or-drop)) in
      omega arith

-- what emptying some cells leaves, of which `full` were full: the map without the pairs of a tablet, and as many fewer
pub record Forgets (xs left : List (Option ℕ)) (t full : ℕ) : Type 0 where
  pub gone : in_cells left ≡ cleared (in_cells xs) t
  pub fewer : size (in_cells left) + full ≡ size (in_cells xs)

-- the n items of a vector, once a slice v of all of it holds ys in place of the k cells from start on
abbrev pub written : List (Option ℕ) → List (Option ℕ) → List (Option ℕ) → ℕ → ℕ → ℕ → List (Option ℕ)
written xs v ys start k n = take n (put_mid start k v ys ++ drop (length (put_mid start k v ys)) xs)

pub forgets : (xs v ys : List (Option ℕ)) (t start k n : ℕ) → t < 16 → start ≡ rank t 0 → k ≡ 4096 → n ≡ 65536 → n ≡ length xs → v ≡ xs → ys ≡ replicate (length (take k (drop start v))) None → Forgets xs (written xs v ys start k n) t (count_by is_some (take k (drop start v)))
forgets xs v ys t start k n tl at all long len whole none =
    let fits : length (drop start xs) ≡ length xs - start = length-drop start xs in
    let same : ys ≡ replicate k None = none ∙ ap (λ m. replicate m None) (ap (λ u. length (take k (drop start u))) whole ∙ length-take-le k (drop start xs) (omega arith)) in
    let items : written xs v ys start k n ≡ put_mid start k xs (replicate k None) =
    rw (whole, same) (take_at (put_mid start k xs (replicate k None)) _ n (search (rules, overwrites, length-replicate))) in
    record {
      gone = ap in_cells items ∙ in_cells-emptied xs t start k tl at all (omega arith);
      fewer = rw (items, whole) (size-emptied xs t start k tl at all (omega arith));
    }

-- ---- a tablet whose cells are cleared one after another

-- the first n rows of a tablet are gone
unfoldable pub cleared_rows : Map → ℕ → ℕ → Map
cleared_rows m tablet n t r = cond (eqb t tablet && ltb r n) None (m t r)

pub cleared-none : (m : Map) (tablet : ℕ) → m ≡ cleared_rows m tablet 0
unfolding cleared_rows
cleared-none m tablet = fun_ext (λ t. fun_ext (λ r. grind (arith, nat_tests)))

pub cleared_more : (m : Map) (tablet n : ℕ) → changed (cleared_rows m tablet n) tablet n None ≡ cleared_rows m tablet (n + 1)
unfolding cleared_rows changed
cleared_more m tablet n = fun_ext (λ t. fun_ext (λ r. grind (arith, nat_tests)))

pub cleared-all : (xs : List (Option ℕ)) (tablet : ℕ) → cleared_rows (in_cells xs) tablet 4096 ≡ cleared (in_cells xs) tablet
unfolding cleared_rows cleared
cleared-all xs tablet = fun_ext (λ t. fun_ext (λ r. grind (arith, nat_tests)))

-- a tablet out of range has no cells
pub without-past : (xs : List (Option ℕ)) (tablet : ℕ) → 16 ≤ tablet → in_cells xs ≡ cleared (in_cells xs) tablet
unfolding cleared
without-past xs tablet past = fun_ext (λ t. fun_ext (λ r. grind (arith, nat_tests)))
