-- What a read of a cell tells, and what a write to one changes.
use Rattle.std.proofs.Common.{◌≡◌, ℕ, ◌+◌, ◌<◌, ◌≤◌, Bool, List, length, get_or, set, replicate, is_some, Some, None, Option, sym, refl, ap, ◌∙◌, arith}
use mathlib.Core.Path.{fun_ext}
use mir.Val.{bool_byte}
use Rattle.std.proofs.lemmas.Bool.Decides.{nat_tests}
use Rattle.std.proofs.lemmas.Grind.{common_steps}
use Rattle.std.proofs.lemmas.List.{get_or_read}
use Rattle.holdings.specs.Maps.{rank, nothing, changed, one, size}
use Rattle.holdings.specs.Spots.{rank_of}
use Rattle.holdings.specs.declared.spot.Spot.{Spot}
use Rattle.holdings.proofs.Sizes.{size-changed}
use Rattle.cells.specs.Cells.{in_cells}

pub cells_at : (xs : List (Option ℕ)) (t r : ℕ) → t < 16 → r < 4096 → in_cells xs t r ≡ get_or xs (rank t r) None
cells_at xs t r tl rl = grind (arith, nat_tests)

pub cells-past-tablets : (xs : List (Option ℕ)) (t r : ℕ) → 16 ≤ t → in_cells xs t r ≡ None
cells-past-tablets xs t r l = grind (arith, nat_tests)

pub cells-past-rows : (xs : List (Option ℕ)) (t r : ℕ) → 4096 ≤ r → in_cells xs t r ≡ None
cells-past-rows xs t r l = grind (arith, nat_tests)

-- ---- a read

pub cell-read : (xs : List (Option ℕ)) (t r at : ℕ) (read : Option ℕ) → t < 16 → r < 4096 → length xs ≡ 65536 → at ≡ rank t r → read ≡ get_or xs at read → read ≡ in_cells xs t r
cell-read xs t r at read tl rl long place e =
    let within : at < length xs = omega arith in
    get_or_read xs at read within e None ∙ ap (λ k. get_or xs k None) place ∙ sym (cells_at xs t r tl rl)

-- the number that a test for something makes
pub one-from-test : (o : Option ℕ) (test : Bool) (n : ℕ) → test ≡ is_some o → n ≡ bool_byte test → n ≡ one o
one-from-test None test n is made = made ∙ ap bool_byte is
one-from-test (Some x) test n is made = made ∙ ap bool_byte is

-- ---- a write

-- the map has the pair at what is written, and every other pair as it was
module _ (xs : List (Option ℕ)) (t r : ℕ) (o : Option ℕ) (tl : t < 16) (rl : r < 4096) (long : length xs ≡ 65536) where
  pub at_each : (u v : ℕ) → in_cells (set xs (rank t r) o) u v ≡ changed (in_cells xs) t r o u v
  unfolding changed
  at_each u v = grind (arith, nat_tests, common_steps)

  pub cells-set : (at : ℕ) → at ≡ rank t r → in_cells (set xs at o) ≡ changed (in_cells xs) t r o
  cells-set at place = ap (λ k. in_cells (set xs k o)) place ∙ fun_ext (λ u. fun_ext (λ v. at_each u v))

module _ (xs : List (Option ℕ)) (spot : Spot) (stamp : ℕ) (long : length xs ≡ 65536) where
  -- the map has the pair put
  pub in_cells_put : in_cells (set xs (rank_of spot) (Some stamp)) ≡ changed (in_cells xs) spot.tablet spot.row (Some stamp)
  in_cells_put = cells-set xs spot.tablet spot.row (Some stamp) spot.tablet_in_range spot.row_in_range long (rank_of spot) refl

  -- and is larger by one, unless the cell was full
  pub size_put : size (in_cells (set xs (rank_of spot) (Some stamp))) + one (get_or xs (rank_of spot) None) ≡ size (in_cells xs) + 1
  size_put =
      let sized = size-changed (in_cells xs) spot.tablet spot.row (Some stamp) spot.tablet_in_range spot.row_in_range in
      let now = ap size in_cells_put in
      let was = ap one (cells_at xs spot.tablet spot.row spot.tablet_in_range spot.row_in_range) in
      omega arith

-- ---- empty cells

-- they hold nothing
pub in_cells-none : (n : ℕ) → in_cells (replicate n None) ≡ nothing
unfolding nothing
in_cells-none n = fun_ext (λ u. fun_ext (λ v. grind (arith, nat_tests, common_steps)))

-- what only `None` can be
pub only_none : (R : Option ℕ → Type 0) → ((x : ℕ) → R (Some x) → ⊥) → (y : Option ℕ) → R y → y ≡ None
only_none R never None h = refl
only_none R never (Some x) h = absurd (never x h)
