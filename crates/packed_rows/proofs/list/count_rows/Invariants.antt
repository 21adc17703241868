use Rattle.std.proofs.Common.{◌≡◌, ℕ, ◌+◌, ◌≤◌, length, Ok, Err, Result}
use Rattle.packed_layout.specs.declared.faults.RowFault.{RowFault}
use Rattle.packed_layout.specs.declared.faults.RowFault.TheVariants.{Record}
use Rattle.packed_layout.specs.Records.{Read, entries, broken}
use Rattle.packed_layout.specs.Layout.{Entry, read_all}
use Rattle.packed_rows.specs.Lists.{row_count}
use Rattle.packed_rows.specs.Entries.{unread, gathered}
use Rattle.packed_rows.proofs.list.count_rows.Given as goal

-- so many rows, and those that are still to be read
abbrev pub counted : ℕ → Read Entry → Result ℕ RowFault
counted count (entries es) = Ok (count + length es)
counted count (broken at) = Err (Record at)

-- they are the count of the list, which fits
abbrev pub invariant-loop-record : goal.invariant-loop-record
invariant-loop-record l = (counted l.count (gathered (unread l.record-iterator)) ≡ row_count (read_all l.bytes)) × (l.count + length (unread l.record-iterator) ≤ length l.bytes)
