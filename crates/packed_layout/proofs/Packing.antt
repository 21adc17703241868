-- The codecs of a row are lawful.
use Rattle.std.proofs.Common.{◌≡◌, ℕ, ◌^◌, ◌<◌, ◌≤◌, Bool, true, false, ◌||◌, eqb, leb, List, length, Some, None, Option, sym, refl, ap, ◌∙◌, subst, arith, lit<, lit≤}
use Rattle.std.specs.List.{AllByRecursion}
use Rattle.std.proofs.lemmas.List.{nil_from_length}
use Rattle.std.proofs.lemmas.Bool.{eqb-true, eqb-false, ne_eqb, le-leb, leb-true, and_parts}
use Rattle.rows.specs.declared.Sort.{Sort}
use Rattle.rows.specs.declared.Sort.TheVariants.{Normal, External}
use Rattle.rows.specs.declared.ExportsKind.{ExportsKind}
use Rattle.rows.specs.declared.ImportKind.{ImportKind}
use Rattle.rows.specs.declared.ImportKind.TheVariants.{Import, Require, DynamicImport, HotAccept}
use Rattle.rows.specs.declared.ImportRecord.{ImportRecord}
use Rattle.rows.specs.declared.Flags.{Flags}
use Rattle.rows.specs.Rows.{Row, is_normal_sort, no_flags}
use Rattle.packed_layout.specs.Layout
use Rattle.packed_layout.specs.Layout.{Head, row_of, head_of, flags_code, flags_of, target_code, target_of, sort_code, sorts, exports_code, exports_kinds, kind_code, import_kinds, bare, allowed}
use Rattle.packed_layout.specs.Codes.{bits_back}
use Rattle.packed_layout.specs.Exact.{Name, Resolved, Bare, Fits}
use Rattle.packed_layout.proofs.Codecs.{Lawful, fit-lawful, seen-lawful, such_lawful, then-lawful, number-lawful, within-lawful, text-lawful, times-lawful, counted-lawful, Known, one_of-lawful}

sort-lawful : Lawful Layout.sort (λ _. Unit {0})
sort-lawful = one_of-lawful sort_code sorts each
  where
    each : (a : Sort) → Known sort_code sorts a
    each Normal = (lit< tt, refl)
    each External = (lit< tt, refl)

exports-lawful : Lawful Layout.exports_kind (λ _. Unit {0})
exports-lawful = one_of-lawful exports_code exports_kinds each
  where
    each : (a : ExportsKind) → Known exports_code exports_kinds a
    each ExportsKind.None = (lit< tt, refl)
    each ExportsKind.Esm = (lit< tt, refl)
    each ExportsKind.CommonJs = (lit< tt, refl)

kind-lawful : Lawful Layout.import_kind (λ _. Unit {0})
kind-lawful = one_of-lawful kind_code import_kinds each
  where
    each : (a : ImportKind) → Known kind_code import_kinds a
    each Import = (lit< tt, refl)
    each Require = (lit< tt, refl)
    each DynamicImport = (lit< tt, refl)
    each HotAccept = (lit< tt, refl)

flags-there : (a b c : Bool) → let f : Flags = record { self_accepting = a; lazy_export = b; entry = c } in (flags_code f ≤ 7) × (flags_of (flags_code f) ≡ f)
flags-there true true true = (lit≤ tt, refl)
flags-there true true false = (lit≤ tt, refl)
flags-there true false true = (lit≤ tt, refl)
flags-there true false false = (lit≤ tt, refl)
flags-there false true true = (lit≤ tt, refl)
flags-there false true false = (lit≤ tt, refl)
flags-there false false true = (lit≤ tt, refl)
flags-there false false false = (lit≤ tt, refl)

flags-lawful : Lawful Layout.flags (λ _. Unit {0})
flags-lawful = seen-lawful flags_of flags_code (such_lawful (λ n. leb n 7) (number-lawful 1)) there (λ n f. (bits_back n (leb-true n 7 f.1), tt))
  where
    there : (f : Flags) → Unit {0} → ((flags_code f < 256) × (leb (flags_code f) 7 ≡ true)) × (flags_of (flags_code f) ≡ f)
    there f _ =
        let t = flags-there f.self_accepting f.lazy_export f.entry in
        ((omega (arith, t.0), le-leb (flags_code f) 7 t.0), t.1)

target-lawful : Lawful Layout.target Resolved
target-lawful = seen-lawful target_of target_code (number-lawful 2) there (λ n h. back n h (eqb n 65535) refl)
  where
    there : (t : Option ℕ) → Resolved t → (target_code t < 256 ^ 2) × (target_of (target_code t) ≡ t)
    there None h = (lit< tt, refl)
    there (Some r) h = (omega arith, rw (ne_eqb r 65535 (λ e. omega arith)))

    back : (n : ℕ) → n < 256 ^ 2 → (b : Bool) → eqb n 65535 ≡ b → (n ≡ target_code (target_of n)) × Resolved (target_of n)
    back n h true e = rw e (eqb-true n 65535 e, tt)
    back n h false e = let other = eqb-false n 65535 e in rw e (refl, omega arith)

pub import-lawful : Lawful Layout.import_record (λ e. Resolved e.target)
import-lawful = seen-lawful (λ p. record { kind = p.0; target = p.1 }) (λ r. (r.kind, r.target)) (then-lawful kind-lawful target-lawful) (λ e h. ((tt, h), refl)) (λ p h. (refl, h.1))

pub name-lawful : Lawful Layout.name Name
name-lawful = fit-lawful (counted-lawful (within-lawful 2 1 1024 (lit< tt)) text-lawful) (λ s n. ((n.some, n.short), n.made)) (λ s f. record { some = f.0.0; short = f.0.1; made = f.1 })

no-exports : (k : ExportsKind) → eqb (exports_code k) 0 ≡ true → k ≡ ExportsKind.None
no-exports ExportsKind.None e = refl
no-exports ExportsKind.Esm e = cc
no-exports ExportsKind.CommonJs e = cc

no-flags : (f : Flags) → eqb (flags_code f) 0 ≡ true → f ≡ no_flags
no-flags f e = sym (flags-there f.self_accepting f.lazy_export f.entry).1 ∙ ap flags_of (eqb-true (flags_code f) 0 e)

bare-there : (r : Row) → Bare r → bare r.flags r.exports (length r.records) ≡ true
bare-there r b = rw (b.flags, b.exports, b.records)

bare-back : (r : Row) → bare r.flags r.exports (length r.records) ≡ true → Bare r
bare-back r e =
    let p = and_parts (eqb (flags_code r.flags) 0) _ e in
    let q = and_parts (eqb (exports_code r.exports) 0) (eqb (length r.records) 0) p.1 in
    record { flags = no-flags r.flags p.0; exports = no-exports r.exports q.0; records = nil_from_length _ (eqb-true _ _ q.1) }

pub external-there : (r : Row) (sort : Sort) → r.sort ≡ sort → (r.sort ≡ External → Bare r) → allowed r ≡ true
external-there r Normal e h = rw e
external-there r External e h = rw e (bare-there r (h e))

pub external-back : (r : Row) → allowed r ≡ true → r.sort ≡ External → Bare r
external-back r e x = bare-back r (subst (λ sort. (is_normal_sort sort || bare r.flags r.exports (length r.records)) ≡ true) x e)

abbrev HeadFits : Head → Type 0
HeadFits (number, (sort, (flags, (exports, (mark, (id, stable_id)))))) = (number < 256 ^ 2) × (Unit {0} × (Unit {0} × (Unit {0} × ((mark < 256 ^ 8) × (Name id × Name stable_id)))))

abbrev RecordsFit : List ImportRecord → Type 0
RecordsFit records = ((0 ≤ length records) × (length records ≤ 1024)) × AllByRecursion (λ (e : ImportRecord). Resolved e.target) records

abbrev PairFits : ℕ × Row → Type 0
PairFits p = HeadFits (head_of p) × RecordsFit p.1.records

pub head-lawful : Lawful Layout.head HeadFits
head-lawful = then-lawful (number-lawful 2) (then-lawful sort-lawful (then-lawful flags-lawful (then-lawful exports-lawful (then-lawful (number-lawful 8) (then-lawful name-lawful name-lawful)))))

pub count-lawful : Lawful Layout.count (λ n. (0 ≤ n) × (n ≤ 1024))
count-lawful = within-lawful 2 0 1024 (lit< tt)

records-lawful : Lawful Layout.import_records RecordsFit
records-lawful = counted-lawful count-lawful (times-lawful import-lawful)

pub row_lawful : Lawful Layout.row (λ p. Fits p.0 p.1)
row_lawful = fit-lawful (such_lawful (λ p. allowed p.1) (seen-lawful (λ f. row_of f.0 f.1) (λ p. (head_of p, p.1.records)) {G = PairFits} (then-lawful head-lawful records-lawful) (λ p f. (f, refl)) (λ f h. (refl, h)))) there back
  where
    there : (p : ℕ × Row) → Fits p.0 p.1 → PairFits p × (allowed p.1 ≡ true)
    there p f = (((f.numbered, (tt, (tt, (tt, (f.mark, (f.id, f.stable_id)))))), ((omega arith, f.count), f.each)), external-there p.1 p.1.sort refl f.external)

    back : (p : ℕ × Row) → PairFits p × (allowed p.1 ≡ true) → Fits p.0 p.1
    back p ((h, rs), e) = let late = h.1.1.1.1 in record { numbered = h.0; mark = late.0; id = late.1.0; stable_id = late.1.1; count = rs.0.1; each = rs.1; external = external-back p.1 e }
