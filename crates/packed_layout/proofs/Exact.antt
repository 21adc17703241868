-- The reader of packed rows accepts exactly the layout.
use Rattle.std.proofs.Common.{◌≡◌, ℕ, ◌*◌, ◌≤◌, List, [], ◌∷◌, length, sym, refl, arith, lit<}
use Rattle.std.proofs.lemmas.List.{length-append}
use Rattle.rows.specs.declared.ImportRecord.{ImportRecord}
use Rattle.rows.specs.Rows.{Row}
use Rattle.packed_layout.specs.Codec.{write_all}
use Rattle.packed_layout.specs.Layout.{entry, import_record, row, rows}
use Rattle.packed_layout.specs.Exact.{Fits, FitsPair, RowsAreExact, ListsAreExact, PackingIsExact}
use Rattle.packed_layout.proofs.Codecs.{whole-reads, whole-wrote}
use Rattle.packed_layout.proofs.Framing.{KindsLawful, only-lawful, kinds-fit, list-is-read, list-was-packed, list-is-refused, list-was-refused}
use Rattle.packed_layout.proofs.Refusals.{record-refused}
use Rattle.packed_layout.proofs.Packing.{row_lawful}
use Rattle.packed_layout.proofs.Sample.{worked}

pub rows-are-exact : RowsAreExact
rows-are-exact = record { is_read = whole-reads row_lawful; was_packed = λ s p h e. let w = whole-wrote row_lawful s p h e in (sym w.0, w.1) }

pub length-imports : (es : List ImportRecord) → length (write_all import_record es) ≡ 3 * length es
length-imports [] = refl
length-imports (e ∷ es) = omega (arith, length-imports es)

short : (p : ℕ × Row) → Fits p.0 p.1 → length (row.write p) ≤ 32768
short p f = simp (length-append, length-imports) (omega arith)

pub rows-lawful : KindsLawful rows FitsPair
rows-lawful = kinds-fit (only-lawful 1 (lit< tt) row_lawful) (λ p f. (f, short p f)) (λ p f. f.0)

pub lists-are-exact : ListsAreExact
lists-are-exact =
    record {
      is_read = list-is-read rows rows-lawful entry;
      was_packed = list-was-packed rows rows-lawful entry;
      is_refused = list-is-refused rows rows-lawful entry;
      was_refused = list-was-refused rows rows-lawful entry;
      why = record-refused rows rows-lawful;
    }

pub packing-is-exact : PackingIsExact
packing-is-exact = record { payloads = rows-are-exact; lists = lists-are-exact; sample = worked }
