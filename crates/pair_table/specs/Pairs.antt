-- What a table of pairs means, and the order that it is kept in.
use Rattle.std.specs.Prelude.{◌≡◌, ℕ, ◌<◌, ◌≤◌, Bool, not, List, [], ◌∷◌, length, Some, ◌==◌, HoldsAt, AllPairs}
use Rattle.std.specs.List.Sorted.{IsPartitionPoint}
use Rattle.holdings.specs.Maps.{Map, nothing, changed}
use Rattle.holdings.specs.Spots.{rank_of}
use Rattle.holdings.specs.declared.spot.Spot.{Spot}
use Rattle.pair_table.specs.declared.pair.Pair.{Pair}

-- the map of which each pair of the table is put
abbrev pub in_pairs : List Pair → Map
in_pairs [] = nothing
in_pairs (p ∷ ps) = changed (in_pairs ps) p.spot.tablet p.spot.row (Some p.stamp)

-- each pair comes before those that follow it
abbrev pub Ordered : List Pair → Type 0
Ordered = AllPairs (λ p q. rank_of p.spot < rank_of q.spot)

-- the pair of this spot stands at i
abbrev pub Found : List Pair → Spot → ℕ → Type 0
Found ps spot i = (i < length ps) × HoldsAt (λ p. rank_of p.spot ≡ rank_of spot) ps i

-- no pair is of this spot: those before i come before it, and those from i on after it
abbrev pub Missing : List Pair → Spot → ℕ → Type 0
Missing ps spot i = (i ≤ length ps) × IsPartitionPoint (λ p. rank_of p.spot < rank_of spot) (λ p. rank_of spot < rank_of p.spot) ps i

-- whether a pair is of another tablet
abbrev pub elsewhere : ℕ → Pair → Bool
elsewhere tablet p = not (p.spot.tablet == tablet)
