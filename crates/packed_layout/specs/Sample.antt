-- A row written out, byte for byte, and lists that are refused.
use Rattle.std.specs.Prelude.{◌≡◌, ℕ, true, false, List, [], ◌∷◌, ◌++◌, take, Some, None, slice_set}
use Rattle.rows.specs.declared.Sort.TheVariants.{Normal}
use Rattle.rows.specs.declared.ExportsKind.{ExportsKind}
use Rattle.rows.specs.declared.ImportKind.TheVariants.{Import, HotAccept}
use Rattle.rows.specs.Rows.{Row}
use Rattle.packed_layout.specs.declared.faults.RecordFault.TheVariants.{EndsInside, UnknownKind, BrokenLayout}
use Rattle.packed_layout.specs.Records.{entries, broken_at}
use Rattle.packed_layout.specs.Layout.{entry, packed, read_all}

abbrev pub sample : Row
sample = record { sort = Normal; flags = record { self_accepting = true; lazy_export = false; entry = true }; exports = ExportsKind.Esm; mark = 258; id = 97 ∷ []; stable_id = 98 ∷ 99 ∷ []; records = record { kind = Import; target = Some 3 } ∷ record { kind = HotAccept; target = None } ∷ [] }

-- length 28, kind 1; number 7, sort 0, flags 5, exports 1; the mark; a name of 1 byte and one of 2; 2 records
abbrev pub sample_bytes : List ℕ
sample_bytes =
    28 ∷ 0 ∷ 0 ∷ 0 ∷ 1 ∷ 0 ∷
    7 ∷ 0 ∷ 0 ∷ 5 ∷ 1 ∷
    2 ∷ 1 ∷ 0 ∷ 0 ∷ 0 ∷ 0 ∷ 0 ∷ 0 ∷
    1 ∷ 0 ∷ 97 ∷ 2 ∷ 0 ∷ 98 ∷ 99 ∷
    2 ∷ 0 ∷ 1 ∷ 3 ∷ 0 ∷ 4 ∷ 255 ∷ 255 ∷ []

pub record Worked : Type 0 where
  pub bytes : packed (7, sample) ≡ sample_bytes
  pub twice : read_all (sample_bytes ++ sample_bytes) ≡ entries (entry 0 (7, sample) ∷ entry 34 (7, sample) ∷ [])
  pub cut_payload : read_all (sample_bytes ++ take 33 sample_bytes) ≡ broken_at EndsInside 34
  pub cut_header : read_all (sample_bytes ++ take 5 sample_bytes) ≡ broken_at EndsInside 34
  pub cut_before_kind : read_all (slice_set (take 33 sample_bytes) 4 2) ≡ broken_at EndsInside 0
  pub kind : read_all (slice_set (slice_set sample_bytes 4 2) 8 9) ≡ broken_at UnknownKind 0
  pub sort : read_all (slice_set sample_bytes 8 2) ≡ broken_at BrokenLayout 0
  pub not_bare : read_all (slice_set sample_bytes 8 1) ≡ broken_at BrokenLayout 0
  pub flags : read_all (slice_set sample_bytes 9 8) ≡ broken_at BrokenLayout 0
  pub no_name : read_all (slice_set sample_bytes 19 0) ≡ broken_at BrokenLayout 0
  pub import_kind : read_all (slice_set sample_bytes 28 0) ≡ broken_at BrokenLayout 0
  pub fewer_records : read_all (slice_set sample_bytes 26 1) ≡ broken_at BrokenLayout 0
