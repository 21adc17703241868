-- What a table of pairs means at a spot, and after an edit.
use Rattle.std.proofs.Common.{◌≡◌, ◌≢◌, ℕ, zero, suc, ◌<◌, false, List, [], ◌∷◌, length, get_or, set, filter, Some, None, refl, arith}
use Rattle.std.specs.List.{insert}
use Rattle.std.proofs.lemmas.Bool.Decides.{nat_tests}
use Rattle.holdings.specs.Maps.{nothing, changed, cleared, in_range}
use Rattle.holdings.specs.Spots.{rank_of}
use Rattle.holdings.specs.declared.spot.Spot.{Spot}
use Rattle.pair_table.specs.Pairs.{in_pairs, elsewhere}
use Rattle.pair_table.specs.declared.pair.Pair.{Pair}

-- no pair before place n is of the spot
abbrev pub NoneBefore : List Pair → Spot → ℕ → Type 0
NoneBefore ps spot n = (j : ℕ) (d : Pair) → j < n → rank_of (get_or ps j d).spot ≢ rank_of spot

-- nor of the others, of pairs of which none is
none_before_tail : (p : Pair) (ps : List Pair) (spot : Spot) (n : ℕ) → NoneBefore (p ∷ ps) spot (suc n) → NoneBefore ps spot n
none_before_tail p ps spot n none j d l = none (suc j) d (omega arith)

-- ---- out of range, and at a spot

pub in_pairs_outside : (ps : List Pair) (t r : ℕ) → in_range t r ≡ false → in_pairs ps t r ≡ None
unfolding nothing changed
in_pairs_outside [] t r out = refl
in_pairs_outside (p ∷ ps) t r out = grind (arith, nat_tests, p.spot.tablet_in_range, p.spot.row_in_range, in_pairs_outside ps t r out)

pub in_pairs-missing : (ps : List Pair) (spot : Spot) → NoneBefore ps spot (length ps) → in_pairs ps spot.tablet spot.row ≡ None
unfolding nothing changed
in_pairs-missing [] spot none = refl
in_pairs-missing (p ∷ ps) spot none =
    grind (arith, nat_tests, none 0 p (omega arith), in_pairs-missing ps spot (none_before_tail p ps spot _ none))

pub in_pairs-found : (ps : List Pair) (spot : Spot) (i : ℕ) (d : Pair) → i < length ps → rank_of (get_or ps i d).spot ≡ rank_of spot → NoneBefore ps spot i → in_pairs ps spot.tablet spot.row ≡ Some (get_or ps i d).stamp
unfolding changed
in_pairs-found [] spot i d l at none = absurd (omega arith)
in_pairs-found (p ∷ ps) spot zero d l at none = grind (arith, nat_tests, p.spot.row_in_range, spot.row_in_range)
in_pairs-found (p ∷ ps) spot (suc i) d l at none =
    grind (arith, nat_tests, none 0 p (omega arith), in_pairs-found ps spot i d (omega arith) at (none_before_tail p ps spot _ none))

-- ---- after an edit

-- a pair of the spot is written over one
pub in_pairs-set : (ps : List Pair) (spot : Spot) (i : ℕ) (x : Pair) → i < length ps → ((d : Pair) → rank_of (get_or ps i d).spot ≡ rank_of spot) → rank_of x.spot ≡ rank_of spot → NoneBefore ps spot i → (u v : ℕ) → in_pairs (set ps i x) u v ≡ changed (in_pairs ps) spot.tablet spot.row (Some x.stamp) u v
unfolding changed
in_pairs-set [] spot i x l at same none u v = absurd (omega arith)
in_pairs-set (p ∷ ps) spot zero x l at same none u v = grind (arith, nat_tests, at p, p.spot.row_in_range, x.spot.row_in_range, spot.row_in_range)
in_pairs-set (p ∷ ps) spot (suc i) x l at same none u v =
    grind (arith, nat_tests, none 0 p (omega arith), in_pairs-set ps spot i x (omega arith) at same (none_before_tail p ps spot _ none) u v)

-- a pair comes in before any of its spot
pub in_pairs-insert : (ps : List Pair) (i : ℕ) (x : Pair) → NoneBefore ps x.spot i → (u v : ℕ) → in_pairs (insert ps i x) u v ≡ changed (in_pairs ps) x.spot.tablet x.spot.row (Some x.stamp) u v
unfolding changed
in_pairs-insert ps zero x none u v = refl
in_pairs-insert [] (suc i) x none u v = refl
in_pairs-insert (p ∷ ps) (suc i) x none u v =
    grind (arith, nat_tests, none 0 p (omega arith), in_pairs-insert ps i x (none_before_tail p ps x.spot _ none) u v)

-- the pairs of a tablet are taken out
pub in_pairs-filter : (ps : List Pair) (tablet u v : ℕ) → in_pairs (filter (elsewhere tablet) ps) u v ≡ cleared (in_pairs ps) tablet u v
unfolding nothing changed cleared
in_pairs-filter [] tablet u v = grind (arith, nat_tests)
in_pairs-filter (p ∷ ps) tablet u v = grind (arith, nat_tests, in_pairs-filter ps tablet u v)
