-- The rows that a side tells, where its parts lie, and how large it is.
use Rattle.std.specs.Prelude.{◌≡◌, ℕ, ◌+◌, ◌≤◌, min, Bool, true, ◌&&◌, List, [], map, length, nat_le}
use Rattle.rows.specs.Numbers.{all_of}
use Rattle.rows.specs.Rows.{Row}
use Rattle.project.specs.declared.Room.{Room}
use Rattle.row_store.specs.declared.Span.{Span}
use Rattle.row_store.specs.declared.Head.{Head}
use Rattle.row_store.specs.declared.Side.{Side}
use Rattle.row_store.specs.Cuts.{row_of}

-- the side has no rows, and may have so many rows and import records
abbrev pub EmptySide : ℕ → ℕ → Side → Type 0
EmptySide rows records s = (s.heads.items ≡ []) × (s.records.items ≡ []) × (s.heads.most ≡ rows) × (s.records.most ≡ records)

-- the rows of a side, over the bytes of the names
abbrev pub rows_in : List ℕ → Side → List Row
rows_in bytes s = map (row_of bytes s.records.items) s.heads.items

-- the part lies within a list of length n
abbrev pub within : ℕ → Span → Bool
within n p = nat_le (p.start + p.len) n

-- the parts of a row lie within so many bytes and import records
abbrev pub stands : ℕ → ℕ → Head → Bool
stands bytes records h = within bytes h.names.id && (within bytes h.names.stable_id && within records h.records)

-- the parts of all rows of a side lie within the bytes and within its import records
abbrev pub Stands : List ℕ → Side → Type 0
Stands bytes s = all_of (stands (length bytes) (length s.records.items)) s.heads.items ≡ true

-- the side has no more rows than there is room for
abbrev pub Few : Room → Side → Type 0
Few room s = length s.heads.items ≤ min room.rows 4096

-- the vectors of a side are just as large as the room
abbrev pub Roomy : Room → Side → Type 0
Roomy room s = (s.heads.most ≡ min room.rows 4096) × (s.records.most ≡ room.records)

-- the vectors of a side are as large as those of another
abbrev pub SameSize : Side → Side → Type 0
SameSize s t = (t.heads.most ≡ s.heads.most) × (t.records.most ≡ s.records.most)
