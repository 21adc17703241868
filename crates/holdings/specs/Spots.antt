-- What a spot stands for.
use Rattle.std.specs.Prelude.{ℕ}
use Rattle.holdings.specs.Maps.{rank}
use Rattle.holdings.specs.declared.spot.Spot.{Spot}

-- its place in the order of tablets and, within a tablet, of rows
abbrev pub rank_of : Spot → ℕ
rank_of spot = rank spot.tablet spot.row
