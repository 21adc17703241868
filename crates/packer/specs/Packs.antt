-- What comes of packing a row into a buffer.
use Rattle.std.specs.Prelude.{◌≡◌, ℕ, ◌^◌, ◌<◌, ◌≤◌, Bool, true, if◌then◌else◌, ◌&&◌, List, [], ◌∷◌, ◌++◌, length, take, drop, Some, None, Ok, Err, Option, Result, codes, nat_le, nat_lt}
use Rattle.std.specs.Fmt.{decimal}
use Rattle.std.specs.List.{list_all}
use Rattle.rows.specs.declared.ImportRecord.{ImportRecord}
use Rattle.rows.specs.Rows.{Row as TheRow}
use Rattle.packed_layout.specs.Codec.{Bytes}
use Rattle.packed_layout.specs.Records.{entries}
use Rattle.packed_layout.specs.Layout.{allowed, entry, row, packed, read_all}
use Rattle.packed_layout.specs.Exact.{FitsPair}
use Rattle.packer.specs.declared.Row.{Row}
use Rattle.packer.specs.declared.PackFault.{PackFault}
use Rattle.packer.specs.declared.PackFault.TheVariants.{Unfit, Short}

-- the numbered row that is to be packed
abbrev pub meant : Row → ℕ × TheRow
meant r = (r.number, record { sort = r.facts.sort; flags = r.facts.flags; exports = r.facts.exports; mark = r.facts.mark; id = r.id.now; stable_id = r.stable_id.now; records = r.records.now })

-- an id or a stable id: 1 to 1,024 bytes
abbrev pub name? : List ℕ → Bool
name? s = nat_le 1 (length s) && nat_le (length s) 1024

-- the number of a target is below the one that stands for an unresolved import
abbrev pub resolved? : Option ℕ → Bool
resolved? None = true
resolved? (Some r) = nat_lt r 65535

-- so is the number of every target
abbrev pub all_resolved? : List ImportRecord → Bool
all_resolved? = list_all (λ e. resolved? e.target)

-- whether a row is within the limits of the layout
abbrev pub fits? : ℕ × TheRow → Bool
fits? p = name? p.1.id && (name? p.1.stable_id && (nat_le (length p.1.records) 1024 && (all_resolved? p.1.records && allowed p.1)))

-- what a fault says of itself
abbrev pub fault_text : PackFault → List ℕ
fault_text Unfit = codes "the row does not fit the layout"
fault_text (Short wanted) = codes "the page has no room for " ++ (decimal wanted ++ codes " bytes")

-- some bytes written to the front of a buffer, and their number; where there is no room for them, the number that is wanted, and the buffer as it was
abbrev pub filled : List ℕ → List ℕ → Result ℕ PackFault × List ℕ
filled bytes buffer = if nat_le (length bytes) (length buffer) then (Ok (length bytes), bytes ++ drop (length bytes) buffer) else (Err (Short (length bytes)), buffer)

-- what packing a row answers, and what the buffer holds then; a row that does not fit the layout is not written
abbrev pub packs : ℕ × TheRow → List ℕ → Result ℕ PackFault × List ℕ
packs p buffer = if fits? p then filled (packed p) buffer else (Err Unfit, buffer)

-- the bytes that were written are read as a list of this one row
abbrev pub ReadBack : ℕ × TheRow → List ℕ → Result ℕ PackFault → Type 0
ReadBack p buffer (Ok n) = read_all (take n buffer) ≡ entries (entry 0 p ∷ [])
ReadBack p buffer (Err fault) = Unit {0}

-- a row that fits the layout, and the length of its payload
pub record Measured (p : ℕ × TheRow) (n : ℕ) : Type 0 where
  pub fits : fits? p ≡ true
  pub size : n ≡ length (row.write p)
  pub short : n ≤ 32768

-- what the types of a row's fields say of it
pub record Typed (p : ℕ × TheRow) : Type 0 where
  pub number : p.0 < 65536
  pub mark : p.1.mark < 2 ^ 64
  pub id : Bytes p.1.id
  pub stable_id : Bytes p.1.stable_id

-- the test passes exactly the rows that fit the layout
pub record FitIsTested : Type 0 where
  pub fits : (p : ℕ × TheRow) → Typed p → fits? p ≡ true → FitsPair p
  pub passes : (p : ℕ × TheRow) → FitsPair p → fits? p ≡ true
