-- What holds of every table that was made or rescanned.
use Rattle.std.specs.Prelude.{◌≡◌, ℕ, ◌<◌, ◌≤◌, min, not, T, List, length, Ok}
use Rattle.rows.specs.Numbers.{member, total}
use Rattle.rows.specs.Rows.{Row, at}
use Rattle.packed_layout.specs.Records.{entries}
use Rattle.packed_layout.specs.Layout.{Entry, read_all}
use Rattle.project.specs.declared.Room.{Room}
use Rattle.project.specs.Projects.{Project}
use Rattle.project.specs.Rescan.{records_of, bytes_of, rows_of, rescanned, from_snapshot}

-- a table: its rows are a project, within its room
pub record Stands (room : Room) (table : List Row) : Type 0 where
  pub project : Project table
  pub few : length table ≤ min room.rows 4096
  pub records : total records_of table ≤ room.records
  pub bytes : total bytes_of table ≤ room.bytes

-- a rescan: no row goes away, each keeps its id, stable id and sort, and one that was not touched is as it was
pub record Kept (touched : List ℕ) (before after : List Row) : Type 0 where
  pub longer : length before ≤ length after
  pub id : (r : ℕ) → r < length before → (at after r).id ≡ (at before r).id
  pub stable_id : (r : ℕ) → r < length before → (at after r).stable_id ≡ (at before r).stable_id
  pub sort : (r : ℕ) → r < length before → (at after r).sort ≡ (at before r).sort
  pub others : (r : ℕ) → r < length before → T (not (member r touched)) → at after r ≡ at before r

-- a snapshot makes a table that stands, and its rows are those of the list, in their order;
-- a rescan leaves a table that stands, and keeps what it should
pub record TablesStand : Type 0 where
  pub snapshot : (room : Room) (s : List ℕ) (table : List Row) → from_snapshot room s ≡ Ok table → Stands room table
  pub in_order : (room : Room) (s : List ℕ) (table : List Row) → from_snapshot room s ≡ Ok table → ((es : List Entry) × (read_all s ≡ entries es) × (table ≡ rows_of es))
  pub rescan : (room : Room) (table : List Row) (touched s : List ℕ) (after : List Row) → Stands room table → rescanned room table touched s ≡ Ok after → Stands room after × Kept touched table after
