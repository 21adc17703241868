-- A packed list that is read where it lies.
use Rattle.std.specs.Prelude.{◌≡◌, ℕ, List, [], map, length, Ok, Err, Result}
use Rattle.packed_layout.specs.declared.faults.RowFault.{RowFault}
use Rattle.packed_layout.specs.declared.faults.RowFault.TheVariants.{Record}
use Rattle.packed_layout.specs.Records.{Read, entries, broken}
use Rattle.packed_layout.specs.Layout.{Entry, read_all}

-- how many rows a list has, or why it is refused
abbrev pub row_count : Read Entry → Result ℕ RowFault
row_count (entries es) = Ok (length es)
row_count (broken at) = Err (Record at)

-- the entries of a list; none of one that is refused
abbrev pub entries_of : Read Entry → List Entry
entries_of (entries es) = es
entries_of (broken at) = []

-- no record of a list is refused
abbrev pub WellFormed : List ℕ → Type 0
WellFormed s = read_all s ≡ entries (entries_of (read_all s))

-- where the records of a list begin
abbrev pub offsets : List ℕ → List ℕ
offsets s = map (λ (e : Entry). e.offset) (entries_of (read_all s))
