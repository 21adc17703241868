-- The layout of a row, and what reading a list of packed rows gives.
use Rattle.std.specs.Prelude.{ℕ, ◌+◌, ◌/◌, ◌%◌, Bool, cond, ◌&&◌, ◌||◌, List, [], ◌∷◌, length, Some, None, Option, ◌==◌, nat_le}
use Rattle.rows.specs.declared.Sort.{Sort}
use Rattle.rows.specs.declared.Sort.TheVariants.{Normal, External}
use Rattle.rows.specs.declared.ExportsKind.{ExportsKind}
use Rattle.rows.specs.declared.ImportKind.{ImportKind}
use Rattle.rows.specs.declared.ImportKind.TheVariants.{Import, Require, DynamicImport, HotAccept}
use Rattle.rows.specs.declared.ImportRecord.{ImportRecord}
use Rattle.rows.specs.declared.Flags.{Flags}
use Rattle.rows.specs.Rows.{Row, is_normal}
use Rattle.packed_layout.specs.Codec.{Codec, when, number, text, ◌then◌, seen, such, times, counted, within, one_of}
use Rattle.packed_layout.specs.Records.{Kinds, only, pack, Read, read_list}

-- The fields of a row, each with its codes.

-- the code of each sort
abbrev pub sort_code : Sort → ℕ
sort_code Normal = 0
sort_code External = 1

-- the sorts that have a code
abbrev pub sorts : List Sort
sorts = Normal ∷ External ∷ []

-- a sort, as the byte of its code
abbrev pub sort : Codec Sort
sort = one_of sort_code sorts

-- the number that a flag adds
abbrev pub bit : Bool → ℕ → ℕ
bit b n = cond b n 0

-- whether the bit that counts k is set
abbrev pub bit_of : ℕ → ℕ → Bool
bit_of n k = n / k % 2 == 1

-- the number that the flags that are set add up to
abbrev pub flags_code : Flags → ℕ
flags_code f = bit f.self_accepting 1 + bit f.lazy_export 2 + bit f.entry 4

-- the flags whose bits are set in a number
abbrev pub flags_of : ℕ → Flags
flags_of n = record { self_accepting = bit_of n 1; lazy_export = bit_of n 2; entry = bit_of n 4 }

-- the flags of a byte whose other five bits are zero
abbrev pub flags_in : ℕ → Option Flags
flags_in n = when (nat_le n 7) (flags_of n)

-- three bits, and the others zero
abbrev pub flags : Codec Flags
flags = seen (such (number 1) (λ n. nat_le n 7)) flags_of flags_code

-- the code of each exports kind
abbrev pub exports_code : ExportsKind → ℕ
exports_code ExportsKind.None = 0
exports_code ExportsKind.Esm = 1
exports_code ExportsKind.CommonJs = 2

-- the exports kinds that have a code
abbrev pub exports_kinds : List ExportsKind
exports_kinds = ExportsKind.None ∷ ExportsKind.Esm ∷ ExportsKind.CommonJs ∷ []

-- an exports kind, as the byte of its code
abbrev pub exports_kind : Codec ExportsKind
exports_kind = one_of exports_code exports_kinds

-- an id or a stable id: its length, 1 to 1,024, and its bytes
abbrev pub name : Codec (List ℕ)
name = counted (within 2 1 1024) text

-- the code of each kind of import
abbrev pub kind_code : ImportKind → ℕ
kind_code Import = 1
kind_code Require = 2
kind_code DynamicImport = 3
kind_code HotAccept = 4

-- the kinds of import that have a code
abbrev pub import_kinds : List ImportKind
import_kinds = Import ∷ Require ∷ DynamicImport ∷ HotAccept ∷ []

-- a kind of import, as the byte of its code
abbrev pub import_kind : Codec ImportKind
import_kind = one_of kind_code import_kinds

-- 65,535 stands for an import that was not resolved
abbrev pub target_code : Option ℕ → ℕ
target_code None = 65535
target_code (Some r) = r

-- the row that such a number leads to, if the import was resolved
abbrev pub target_of : ℕ → Option ℕ
target_of n = cond (n == 65535) None (Some n)

-- a target, in 2 bytes
abbrev pub target : Codec (Option ℕ)
target = seen (number 2) target_of target_code

-- an import record: its kind, then its target
abbrev pub import_record : Codec ImportRecord
import_record = seen (import_kind then target) (λ p. record { kind = p.0; target = p.1 }) (λ r. (r.kind, r.target))

-- The layout: what comes before the import records, and those.

-- number, sort, flags, exports kind, output mark, id and stable id
abbrev pub Head : Type 0
Head = ℕ × (Sort × (Flags × (ExportsKind × (ℕ × (List ℕ × List ℕ)))))

-- those fields, one after another
abbrev pub head : Codec Head
head = number 2 then sort then flags then exports_kind then number 8 then name then name

-- at most 1,024 import records, their count first
abbrev pub count : Codec ℕ
count = within 2 0 1024

-- the import records of a row: their count, then each of them
abbrev pub import_records : Codec (List ImportRecord)
import_records = counted count (times import_record)

-- all fields of a row: the head, then its import records
abbrev pub fields : Codec (Head × List ImportRecord)
fields = head then import_records

-- the numbered row that the fields make
abbrev pub row_of : Head → List ImportRecord → ℕ × Row
row_of (number, (sort, (flags, (exports, (mark, (id, stable_id)))))) records = (number, record { sort = sort; flags = flags; exports = exports; mark = mark; id = id; stable_id = stable_id; records = records })

-- the head of a numbered row
abbrev pub head_of : ℕ × Row → Head
head_of (number, r) = (number, (r.sort, (r.flags, (r.exports, (r.mark, (r.id, r.stable_id))))))

-- no flags, no exports kind, no import records
abbrev pub bare : Flags → ExportsKind → ℕ → Bool
bare f exports records = flags_code f == 0 && (exports_code exports == 0 && records == 0)

-- an external row is bare: it has its names and its mark
abbrev pub allowed : Row → Bool
allowed r = is_normal r || bare r.flags r.exports (length r.records)

-- a numbered row that is allowed: its fields, one after another
abbrev pub row : Codec (ℕ × Row)
row = such (seen fields (λ f. row_of f.0 f.1) (λ p. (head_of p, p.1.records))) (λ p. allowed p.1)

-- the records of a list of rows: their kind is 1
abbrev pub rows : Kinds (ℕ × Row)
rows = only 1 row

-- a numbered row as a record
abbrev pub packed : ℕ × Row → List ℕ
packed p = pack rows p

-- a row of a list: where its record begins, its number, and what it is
pub record Entry : Type 0 where
  pub offset : ℕ
  pub number : ℕ
  pub row : Row

-- the entry of a numbered row whose record begins at an offset
abbrev pub entry : ℕ → ℕ × Row → Entry
entry offset p = record { offset = offset; number = p.0; row = p.1 }

-- a list of packed rows: its entries, or the first record that is refused
abbrev pub read_all : List ℕ → Read Entry
read_all s = read_list rows entry s
