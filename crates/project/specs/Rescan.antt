-- What a list of packed rows does to a table, and when it is refused.
use Rattle.std.specs.Prelude.{ℕ, ◌+◌, min, Bool, false, cond, not, ◌&&◌, ◌||◌, List, [], ◌∷◌, ◌++◌, map, length, Some, None, Ok, Err, Option, Result, ◌==◌, nat_le, nat_lt, slice_set}
use Rattle.rows.specs.Numbers.{any, member, repeats, total}
use Rattle.std.specs.Str.{bytes_eq}
use Rattle.rows.specs.Rows.{Row as TheRow, at, targets, is_any, is_normal}
use Rattle.packed_layout.specs.declared.faults.RowFault.{RowFault}
use Rattle.packed_layout.specs.declared.faults.RowFault.TheVariants.{Record, OutOfTurn, NameClash}
use Rattle.packed_layout.specs.Records.{Read, entries, broken}
use Rattle.packed_layout.specs.Layout.{Entry, read_all}
use Rattle.project.specs.declared.Room.{Room}
use Rattle.project.specs.declared.faults.RescanFault.{RescanFault}
use Rattle.project.specs.declared.faults.RescanFault.TheVariants.{Row, WrongRows, NoTarget, NoRoom}

-- Placing rows.

-- one row replaces the row of its number, or follows the last
abbrev pub placed : List TheRow → Entry → List TheRow
placed table e = cond (nat_lt e.number (length table)) (slice_set table e.number e.row) (table ++ e.row ∷ [])

-- the rows of a list, one after another
abbrev pub merged : List TheRow → List Entry → List TheRow
merged table [] = table
merged table (e ∷ es) = merged (placed table e) es

-- The faults of a row.

abbrev pub same_sort : TheRow → TheRow → Bool
same_sort r q = cond (is_normal r) (is_normal q) (not (is_normal q))

-- a row in the place of another has its id, stable id and sort
abbrev pub keeps : TheRow → TheRow → Bool
keeps old r = bytes_eq old.id r.id && (bytes_eq old.stable_id r.stable_id && same_sort old r)

-- the id or the stable id of a new row is another row's
abbrev pub taken : List TheRow → TheRow → Bool
taken table r = any (λ (q : TheRow). bytes_eq q.id r.id) table || any (λ (q : TheRow). bytes_eq q.stable_id r.stable_id) table

-- the row is not the row of its number, or takes a name
abbrev pub clashes : List TheRow → Entry → Bool
clashes table e = cond (nat_lt e.number (length table)) (not (keeps (at table e.number) e.row)) (taken table e.row)

-- the fault of the first row that has one; each is judged by the table with the rows before it
abbrev pub rows_fault : List TheRow → List Entry → Option RowFault
rows_fault table [] = None
rows_fault table (e ∷ es) =
    cond (nat_lt (length table) e.number) (Some (OutOfTurn e.offset))
    (cond (clashes table e) (Some (NameClash e.offset))
    (rows_fault (placed table e) es))

-- The faults of a list.

abbrev pub numbers : List Entry → List ℕ
numbers es = map (λ (e : Entry). e.number) es

abbrev pub rows_of : List Entry → List TheRow
rows_of es = map (λ (e : Entry). e.row) es

-- a target that is none of so many rows
abbrev pub dangling : ℕ → TheRow → Bool
dangling count r = any (λ t. nat_le count t) (targets is_any r)

abbrev pub records_of : TheRow → ℕ
records_of r = length r.records

abbrev pub bytes_of : TheRow → ℕ
bytes_of r = length r.id + length r.stable_id

-- there must be room for the rows of the table and those of the list side by side
abbrev pub too_much : Room → List TheRow → List Entry → Bool
too_much room table es =
    nat_lt (min room.rows 4096) (length (merged table es))
    || (nat_lt room.records (total records_of table + total records_of (rows_of es))
    || nat_lt room.bytes (total bytes_of table + total bytes_of (rows_of es)))

-- the fault of the first test that holds
abbrev pub first : List (Bool × RescanFault) → Option RescanFault
first [] = None
first (c ∷ cs) = cond c.0 (Some c.1) (first cs)

-- Judging: `wrong` says whether the numbers are not those asked for.

module _ (room : Room) (table : List TheRow) (wrong : List ℕ → Bool) where
  -- the fault of a list whose rows have none
  abbrev pub list_fault : List Entry → Option RescanFault
  list_fault es = first ((wrong (numbers es) || repeats (numbers es), WrongRows) ∷ (any (dangling (length (merged table es))) (rows_of es), NoTarget) ∷ (too_much room table es, NoRoom) ∷ [])

  abbrev pub judge_list : List Entry → Option RescanFault → Result (List TheRow) RescanFault
  judge_list es None = Ok (merged table es)
  judge_list es (Some fault) = Err fault

  abbrev pub judge_rows : List Entry → Option RowFault → Result (List TheRow) RescanFault
  judge_rows es None = judge_list es (list_fault es)
  judge_rows es (Some fault) = Err (Row fault)

  abbrev pub judge_read : Read Entry → Result (List TheRow) RescanFault
  judge_read (broken at) = Err (Row (Record at))
  judge_read (entries es) = judge_rows es (rows_fault table es)

  -- what comes of packed rows: the table with them, or the first fault
  abbrev pub judge : List ℕ → Result (List TheRow) RescanFault
  judge s = judge_read (read_all s)

-- a row of the table that is not touched, a touched row that is missing, or rows though none is touched
abbrev pub unasked : List TheRow → List ℕ → List ℕ → Bool
unasked table touched ns =
    any (λ n. nat_lt n (length table) && not (member n touched)) ns
    || (any (λ t. not (member t ns)) touched
    || (length touched == 0 && not (length ns == 0)))

-- a rescan of a table in which some rows were touched
abbrev pub rescanned : Room → List TheRow → List ℕ → List ℕ → Result (List TheRow) RescanFault
rescanned room table touched s = judge room table (unasked table touched) s

-- the making of a table from a snapshot: the same from an empty table, with nothing asked for
abbrev pub from_snapshot : Room → List ℕ → Result (List TheRow) RescanFault
from_snapshot room s = judge room [] (λ _. false) s
