-- Why a store of cells keeps the laws of a store.
use Rattle.std.specs.Prelude.{◌≡◌, ℕ, ◌<◌, Bool, true, false, cond, List, is_some, None, Option, refl}
use Rattle.std.proofs.lemmas.Bool.{and_parts, ltb-true}
use Rattle.cells.specs.Cells.{in_cells}

-- what is held only under a test passes it
some-only-if : (b : Bool) (o : Option ℕ) → is_some (cond b o None) ≡ true → b ≡ true
some-only-if true o some = refl
some-only-if false o some = some

-- nothing is held out of range
pub held-inside : (xs : List (Option ℕ)) (t r : ℕ) → is_some (in_cells xs t r) ≡ true → (t < 16) × (r < 4096)
held-inside xs t r some =
    let range = and_parts _ _ (some-only-if _ _ some) in
    (ltb-true t 16 range.0, ltb-true r 4096 range.1)
