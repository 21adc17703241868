-- The order of spots is that of their ranks.
use Rattle.std.proofs.Common.{◌≡◌, arith}
use Rattle.std.specs.Ordering.{nat_cmp, ordering_then}
use Rattle.std.proofs.lemmas.Bool.Decides.{nat_tests}
use Rattle.holdings.specs.Spots.{rank_of}
use Rattle.holdings.specs.declared.spot.Spot.{Spot}

pub cmp-rank_of : (a b : Spot) → ordering_then (nat_cmp a.tablet b.tablet) (nat_cmp a.row b.row) ≡ nat_cmp (rank_of a) (rank_of b)
cmp-rank_of a b = grind (arith, nat_tests, a.row_in_range, b.row_in_range)
