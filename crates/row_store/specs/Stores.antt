-- What a store tells: the rows, the rows before, and how many bytes of names it holds.
use Rattle.std.specs.Prelude.{ℕ, ◌+◌, List, ◌++◌, length}
use Rattle.rows.specs.Rows.{Row}
use Rattle.project.specs.declared.Room.{Room}
use Rattle.row_store.specs.declared.store.RowStore.{RowStore}
use Rattle.row_store.specs.Sides.{rows_in}

-- the rows
abbrev pub rows_now : RowStore → List Row
rows_now s = rows_in s.bytes.items s.current

-- the rows as they were before the last rewrite
abbrev pub rows_before : RowStore → List Row
rows_before s = rows_in s.bytes.items s.former

-- how many bytes of names are written
abbrev pub written : RowStore → ℕ
written s = length s.bytes.items

-- all that a store tells: the rows, the rows before, how many bytes of names are written, and the room
pub record Told : Type 0 where
  pub rows : List Row
  pub before : List Row
  pub written : ℕ
  pub room : Room

-- what a store tells
abbrev pub told : RowStore → Told
told s = record { rows = rows_now s; before = rows_before s; written = written s; room = s.room }

-- the same, but that rows follow the rows before, and so many bytes of names are added
abbrev pub told_with : Told → List Row → ℕ → Told
told_with t come bytes = record { rows = t.rows; before = t.before ++ come; written = t.written + bytes; room = t.room }

-- the same, but that the rows before are these, and so many bytes of names are added
abbrev pub told_anew : Told → List Row → ℕ → Told
told_anew t before bytes = record { rows = t.rows; before = before; written = t.written + bytes; room = t.room }
