-- Why a packed record or a row is refused, and the number of each fault.
use Rattle.std.specs.Prelude.{ℕ, List, ◌++◌, codes}
use Rattle.std.specs.Fmt.{decimal}
use Rattle.packed_layout.specs.declared.faults.RecordFault.{RecordFault}
use Rattle.packed_layout.specs.declared.faults.RecordFault.TheVariants.{EndsInside, UnknownKind, BrokenLayout}
use Rattle.packed_layout.specs.declared.faults.RowFault.{RowFault}
use Rattle.packed_layout.specs.declared.faults.RowFault.TheVariants.{Record, OutOfTurn, NameClash}

-- the bytes end inside the record; its kind is not known; its payload is not laid out as a row
abbrev pub record_number : RecordFault → ℕ
record_number EndsInside = 1
record_number UnknownKind = 2
record_number BrokenLayout = 3

-- a record's fault keeps its number; a row's number leaves a gap; its id, stable id or sort is not its own
abbrev pub row_number : RowFault → ℕ
row_number (Record at) = record_number at.fault
row_number (OutOfTurn offset) = 4
row_number (NameClash offset) = 5

-- where the record begins that the fault is of
abbrev pub row_offset : RowFault → ℕ
row_offset (Record at) = at.offset
row_offset (OutOfTurn offset) = offset
row_offset (NameClash offset) = offset

-- what a refused row says of itself: the number of its fault, and where its record begins
abbrev pub fault_text : RowFault → List ℕ
fault_text fault = codes "refused " ++ (decimal (row_number fault) ++ (codes " at " ++ decimal (row_offset fault)))
