-- The reader accepts exactly what the layout packs.
use Rattle.std.specs.Prelude.{◌≡◌, ℕ, ◌^◌, ◌<◌, ◌≤◌, List, [], length, Some, None, Option}
use Rattle.std.specs.List.{AllByRecursion}
use Rattle.rows.specs.declared.Sort.TheVariants.{External}
use Rattle.rows.specs.declared.ExportsKind.{ExportsKind}
use Rattle.rows.specs.declared.ImportRecord.{ImportRecord}
use Rattle.rows.specs.Rows.{Row, no_flags}
use Rattle.packed_layout.specs.Codec.{Bytes, read_whole}
use Rattle.packed_layout.specs.Records.{ListIsRead, ListWasPacked, ListIsRefused, ListWasRefused, RefusedFor}
use Rattle.packed_layout.specs.Layout.{entry, row, rows}
use Rattle.packed_layout.specs.Sample.{Worked}

-- The limits of the layout, for a numbered row.

-- an id or a stable id has 1 to 1,024 bytes
pub record Name (s : List ℕ) : Type 0 where
  pub some : 1 ≤ length s
  pub short : length s ≤ 1024
  pub made : Bytes s

-- a target is below the number that stands for an unresolved one
abbrev pub Resolved : Option ℕ → Type 0
Resolved None = Unit {0}
Resolved (Some r) = r < 65535

-- what an external row has besides its names and its mark: nothing
pub record Bare (r : Row) : Type 0 where
  pub flags : r.flags ≡ no_flags
  pub exports : r.exports ≡ ExportsKind.None
  pub records : r.records ≡ []

pub record Fits (number : ℕ) (r : Row) : Type 0 where
  pub numbered : number < 65536
  pub mark : r.mark < 2 ^ 64
  pub id : Name r.id
  pub stable_id : Name r.stable_id
  pub count : length r.records ≤ 1024
  pub each : AllByRecursion (λ (e : ImportRecord). Resolved e.target) r.records
  pub external : r.sort ≡ External → Bare r

abbrev pub FitsPair : ℕ × Row → Type 0
FitsPair p = Fits p.0 p.1

-- one payload: what is packed is read back, and what is read was packed
pub record RowsAreExact : Type 0 where
  pub is_read : (p : ℕ × Row) → FitsPair p → read_whole row (row.write p) ≡ Some p
  pub was_packed : (s : List ℕ) (p : ℕ × Row) → Bytes s → read_whole row s ≡ Some p → (row.write p ≡ s) × FitsPair p

-- lists: the same, and where and why a list is refused
pub record ListsAreExact : Type 0 where
  pub is_read : ListIsRead rows entry FitsPair
  pub was_packed : ListWasPacked rows entry FitsPair
  pub is_refused : ListIsRefused rows entry FitsPair
  pub was_refused : ListWasRefused rows entry FitsPair
  -- a record ends inside itself; else its kind is not 1; else no row that fits is packed so
  pub why : RefusedFor rows FitsPair

-- the whole law: payloads, lists, and a row written out byte for byte
pub record PackingIsExact : Type 0 where
  pub payloads : RowsAreExact
  pub lists : ListsAreExact
  pub sample : Worked
