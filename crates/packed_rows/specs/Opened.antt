-- What opening a packed list answers, and what the opened list shows.
use Rattle.std.specs.Prelude.{◌≡◌, ℕ, cond, List, [], length, Ok, Err, vec_items, vec_capacity, Result, nat_le}
use Rattle.packed_layout.specs.declared.faults.RowFault.TheVariants.{Record}
use Rattle.packed_rows.specs.declared.OpenFault.{OpenFault}
use Rattle.packed_rows.specs.declared.OpenFault.TheVariants.{Row, Short}
use Rattle.packed_rows.specs.declared.Unopened.{Unopened}
use Rattle.packed_rows.specs.declared.PackedRows.{PackedRows}
use Rattle.packed_layout.specs.Records.{Read, entries, broken}
use Rattle.packed_layout.specs.Layout.{Entry, read_all}
use Rattle.rows.specs.Rows.{Row as TheRow}
use Rattle.packed_rows.specs.Lists.{entries_of, offsets}

-- the rows of an opened list, with their numbers and offsets
abbrev pub rows_in : PackedRows → List Entry
rows_in p = entries_of (read_all p.bytes.now)

-- the numbered row of an entry
abbrev pub numbered : Entry → ℕ × TheRow
numbered e = (e.number, e.row)

-- the entries of a list, given places for so many; or the list's fault, or the number of places wanted
abbrev pub opened : ℕ → Read Entry → Result (List Entry) OpenFault
opened room (broken at) = Err (Row (Record at))
opened room (entries es) = cond (nat_le (length es) room) (Ok es) (Err (Short (length es)))

-- what an opening answered
abbrev pub opened_as : Result PackedRows Unopened → Result (List Entry) OpenFault
opened_as (Ok p) = Ok (rows_in p)
opened_as (Err u) = Err u.cause

-- a refused opening hands its places back, empty, with the room that they had
abbrev pub HandedBack : ℕ → Result PackedRows Unopened → Type 0
HandedBack room (Ok p) = vec_capacity p.places ≡ room
HandedBack room (Err u) = (vec_items u.places ≡ []) × (vec_capacity u.places ≡ room)

-- what came of noting the offsets of a list's records, given places for so many
abbrev pub Noted : ℕ → List ℕ → List ℕ → Result (Unit {0}) OpenFault → Type 0
Noted room s places (Ok _) = (offsets s ≡ places) × (opened room (read_all s) ≡ Ok (entries_of (read_all s)))
Noted room s places (Err cause) = opened room (read_all s) ≡ Err cause
