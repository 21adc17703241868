-- What a row of cells means.
use Rattle.std.specs.Prelude.{ℕ, cond, List, None, Option, slice_index_or}
use Rattle.holdings.specs.Maps.{Map, rank, in_range}

-- the map of which each pair in range has a cell, tablet by tablet
abbrev pub in_cells : List (Option ℕ) → Map
in_cells cells t r = cond (in_range t r) (slice_index_or cells (rank t r) None) None
