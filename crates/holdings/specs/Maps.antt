-- Maps from pairs of a tablet and a row to stamps.
use Rattle.std.specs.Prelude.{ℕ, zero, suc, ◌+◌, ◌*◌, Bool, cond, ◌&&◌, is_some, Some, None, Option, if◌then◌else◌, ◌==◌, nat_lt}

-- the stamp of each pair of a tablet and a row that is held
abbrev pub Map : Type 0
Map = ℕ → ℕ → Option ℕ

-- the place of a pair in the order of tablets and, within a tablet, of rows
abbrev pub rank : ℕ → ℕ → ℕ
rank tablet row = tablet * 4096 + row

-- no pair is held
unfoldable pub nothing : Map
nothing t r = None

-- one pair is mapped to what is given, and every other pair is as it was
unfoldable pub changed : Map → ℕ → ℕ → Option ℕ → Map
changed m tablet row to t r = cond (t == tablet && r == row) to (m t r)

-- the pairs of one tablet are gone, and every other pair is as it was
unfoldable pub cleared : Map → ℕ → Map
cleared m tablet t r = cond (t == tablet) None (m t r)

-- w 0 + .. + w (n - 1)
unfoldable pub sum_to : (ℕ → ℕ) → ℕ → ℕ
sum_to w zero = 0
sum_to w (suc n) = w n + sum_to w n

-- 1 for a pair that is held, else 0
abbrev pub one : Option ℕ → ℕ
one o = cond (is_some o) 1 0

-- the number of pairs that are held, of 16 tablets and 4,096 rows
unfoldable pub size : Map → ℕ
size m = sum_to (λ t. sum_to (λ r. one (m t r)) 4096) 16

-- whether the tablet is at most 15 and the row at most 4,095
abbrev pub in_range : ℕ → ℕ → Bool
in_range tablet row = nat_lt tablet 16 && nat_lt row 4096

-- a tablet and a row, where both are in range
abbrev pub ranged : ℕ → ℕ → Option (ℕ × ℕ)
ranged tablet row = if in_range tablet row then Some (tablet, row) else None
