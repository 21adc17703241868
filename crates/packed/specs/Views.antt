-- What the code's values mean: a part and the rest of some bytes, a row that is read where it lies.
use Rattle.std.specs.Prelude.{ℕ, ◌+◌, cond, List, [], length, drop, Some, None, Ok, Err, Option, Result, nat_le}
use Rattle.std.specs.Borrow.{Bor}
use Rattle.std.specs.Option.{option_map}
use Rattle.rows.specs.declared.ImportRecord.{ImportRecord}
use Rattle.rows.specs.Rows.{Row}
use Rattle.packed_layout.specs.declared.faults.RecordFault.{RecordFault}
use Rattle.packed_layout.specs.declared.faults.FaultAt.{FaultAt}
use Rattle.packed.specs.declared.fields.Header.{Header}
use Rattle.packed.specs.declared.view.RowHead.{RowHead}
use Rattle.packed.specs.declared.view.Imports.{Imports}
use Rattle.packed.specs.declared.view.RowView.{RowView}
use Rattle.packed.specs.declared.view.Outline.{Outline}
use Rattle.packed_layout.specs.Codec.{bind, text, read_times}
use Rattle.packed_layout.specs.Records.{header, first_record}
use Rattle.packed_layout.specs.Layout.{Head, head, count, Entry, entry, import_record, row_of, rows}

-- a value and the bytes after it
abbrev pub taken : {A : Type 0} → Option (A × Bor (List ℕ)) → Option (A × List ℕ)
taken r = option_map (λ p. (p.0, p.1.now)) r

-- the same of a value that stands for another, as a number of a type stands for a number
abbrev pub taken_as : {A B : Type 0} → (A → B) → Option (A × Bor (List ℕ)) → Option (B × List ℕ)
taken_as means r = option_map (λ p. (means p.0, p.1.now)) r

-- a record's size and kind, and the bytes after them
abbrev pub heading : Option (Header × Bor (List ℕ)) → Option ((ℕ × ℕ) × List ℕ)
heading r = option_map (λ p. ((p.0.size, p.0.kind), p.1.now)) r

-- some bytes and the bytes after them
abbrev pub cut : Option (Bor (List ℕ) × Bor (List ℕ)) → Option (List ℕ × List ℕ)
cut r = option_map (λ p. (p.0.now, p.1.now)) r

-- the fields of a row before its import records
abbrev pub head_in : RowHead → Head
head_in h = (h.number, (h.facts.sort, (h.facts.flags, (h.facts.exports, (h.facts.mark, (h.id.now, h.stable_id.now))))))

-- the fields before the import records, and the bytes after them
abbrev pub headed : Option (RowHead × Bor (List ℕ)) → Option (Head × List ℕ)
headed r = option_map (λ p. (head_in p.0, p.1.now)) r

-- the fields, the number of import records, and the bytes of those
abbrev pub outline : List ℕ → Option (Head × (ℕ × List ℕ))
outline s = bind (head.read s) (λ h. bind (count.read h.1) (λ n. Some (h.0, (n.0, n.1))))

-- what an outline tells of these
abbrev pub outlined : Outline → Head × (ℕ × List ℕ)
outlined v = (head_in v.head, (v.count, v.imports.now))

-- the outline of the row in the record at the front
abbrev pub outline_first : List ℕ → Option (Head × (ℕ × List ℕ))
outline_first s = bind (header.read s) (λ h. bind ((text h.0.0).read h.1) (λ p. outline p.0))

-- the outline of the row in the record at an offset
abbrev pub outline_at : List ℕ → ℕ → Option (Head × (ℕ × List ℕ))
outline_at s offset = outline_first (drop offset s)

-- so many import records from the front of some bytes, or none if they are not there
abbrev pub records_in : ℕ → List ℕ → List ImportRecord
records_in n s = elim (read_times import_record n s) [ None ↦ [] | Some p ↦ p.0 ]

-- the import records that some bytes are
abbrev pub imports_in : Imports → List ImportRecord
imports_in i = records_in i.count i.bytes.now

-- the numbered row that a view shows
abbrev pub shown : RowView → ℕ × Row
shown v = row_of (head_in v.head) (imports_in v.imports)

-- the numbered row that an outline shows, where its last bytes are its import records
abbrev pub glanced : Outline → ℕ × Row
glanced o = row_of (head_in o.head) (records_in o.count o.imports.now)

-- a record that was read: its row, and how many bytes it takes
abbrev pub shown_first : Result (RowView × ℕ) RecordFault → Result ((ℕ × Row) × ℕ) RecordFault
shown_first (Ok p) = Ok (shown p.0, p.1)
shown_first (Err fault) = Err fault

-- a record that the layout reads, but for the bytes after it
abbrev pub sized : Result ((ℕ × Row) × ℕ × List ℕ) RecordFault → Result ((ℕ × Row) × ℕ) RecordFault
sized (Ok r) = Ok (r.0, r.1)
sized (Err fault) = Err fault

-- a record that was read at an offset: its entry, and where the next one begins
abbrev pub shown_at : ℕ → Result (Option (RowView × ℕ)) FaultAt → Result (Option (Entry × ℕ)) FaultAt
shown_at offset (Ok o) = Ok (option_map (λ p. (entry offset (shown p.0), p.1)) o)
shown_at offset (Err at) = Err at

-- what a record at the front of some bytes is to a list in which they begin at an offset
abbrev pub placed : ℕ → Result ((ℕ × Row) × ℕ × List ℕ) RecordFault → Result (Option (Entry × ℕ)) FaultAt
placed offset (Ok r) = Ok (Some (entry offset r.0, offset + r.1))
placed offset (Err fault) = Err (record { fault = fault; offset = offset })

-- the record at an offset, and where the next one begins; nothing at the end of the bytes
abbrev pub read_at : List ℕ → ℕ → Result (Option (Entry × ℕ)) FaultAt
read_at s offset = cond (nat_le (length s) offset) (Ok None) (placed offset (first_record rows (drop offset s)))
