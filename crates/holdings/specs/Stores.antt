-- What a store means, and what is done to it.
use Rattle.std.specs.Prelude.{ℕ, Bool, ◌&&◌, ◌||◌, is_some, Some, nat_lt}
use Rattle.holdings.specs.Maps.{Map, nothing, changed, cleared, size, in_range}

-- what it holds, and the most pairs that it may hold
pub record Store : Type 0 where
  pub held : Map
  pub most : ℕ

-- a store without pairs
abbrev pub empty : ℕ → Store
empty most = record { held = nothing; most = most }

-- one pair is at this stamp; every other pair, and the most, are as they were
abbrev pub put : Store → ℕ → ℕ → ℕ → Store
put s tablet row stamp = record { held = changed s.held tablet row (Some stamp); most = s.most }

-- the pairs of one tablet are gone; every other pair, and the most, are as they were
abbrev pub without : Store → ℕ → Store
without s tablet = record { held = cleared s.held tablet; most = s.most }

-- whether it takes a stamp for this pair
abbrev pub takes : Store → ℕ → ℕ → Bool
takes s tablet row = in_range tablet row && (is_some (s.held tablet row) || nat_lt (size s.held) s.most)
