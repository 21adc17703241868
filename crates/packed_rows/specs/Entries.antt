-- A packed list that is read record by record.
use Rattle.std.specs.Prelude.{ℕ, zero, suc, ◌-◌, List, [], ◌∷◌, length, Some, None, Ok, Err, Result}
use Rattle.packed_layout.specs.declared.faults.FaultAt.{FaultAt}
use Rattle.packed_layout.specs.Records.{Read, entries, broken, also}
use Rattle.packed_layout.specs.Layout.{Entry, entry}
use Rattle.packed.specs.declared.view.RowView.{RowView}
use Rattle.packed.specs.Views.{shown, read_at}
use Rattle.packed_rows.specs.declared.entries.Records.{Records}
use Rattle.packed_rows.specs.declared.entries.Entries.{Entries}

-- what reading at most so many records from an offset on gives, one by one, up to the end or the fault of the first that is refused
abbrev pub outcomes_in : ℕ → List ℕ → ℕ → List (Result Entry FaultAt)
outcomes_in zero s offset = []
outcomes_in (suc most) s offset = elim (read_at s offset) [ Err at ↦ Err at ∷ [] | Ok o ↦ elim o [ None ↦ [] | Some p ↦ Ok p.0 ∷ outcomes_in most s p.1 ] ]

-- what reading all of them gives; each record takes some bytes, so there are at most as many as bytes
abbrev pub outcomes : List ℕ → ℕ → List (Result Entry FaultAt)
outcomes s offset = outcomes_in (length s - offset) s offset

-- the list that such outcomes make
abbrev pub gathered : List (Result Entry FaultAt) → Read Entry
gathered [] = entries []
gathered (Ok e ∷ more) = also e (gathered more)
gathered (Err at ∷ more) = broken at

-- the entries before the first fault
abbrev pub before_fault : List (Result Entry FaultAt) → List Entry
before_fault [] = []
before_fault (Ok e ∷ more) = e ∷ before_fault more
before_fault (Err at ∷ more) = []

-- the rows from an offset on, up to the end or the first record that is refused
abbrev pub readable : List ℕ → ℕ → List Entry
readable s offset = before_fault (outcomes s offset)

-- what is still to be read
abbrev pub unread : Records → List (Result Entry FaultAt)
unread r = outcomes r.bytes.now r.offset

-- the rows that are still to come: those before the first fault
abbrev pub coming : Entries → List Entry
coming l = before_fault (unread l.records)

-- a row that was read, with its offset
abbrev pub entry_in : ℕ × RowView → Entry
entry_in p = entry p.0 (shown p.1)

-- what came of reading a record: the entry of its row, or its fault
abbrev pub outcome_in : Result (ℕ × RowView) FaultAt → Result Entry FaultAt
outcome_in (Ok p) = Ok (entry_in p)
outcome_in (Err at) = Err at
