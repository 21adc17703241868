-- The number of each fault of a list of rows.
use Rattle.std.specs.Prelude.{ℕ}
use Rattle.packed_layout.specs.Faults.{row_number}
use Rattle.project.specs.declared.faults.RescanFault.{RescanFault}
use Rattle.project.specs.declared.faults.RescanFault.TheVariants.{Row, WrongRows, NoTarget, NoRoom}

-- a row's fault keeps its number; rows that were not asked for, or not all that were; a target that is no row; no room
abbrev pub rescan_number : RescanFault → ℕ
rescan_number (Row fault) = row_number fault
rescan_number WrongRows = 6
rescan_number NoTarget = 7
rescan_number NoRoom = 8
