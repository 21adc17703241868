-- What the reader of packed rows gives is as the layout allows it.
use Rattle.std.proofs.Common.{◌≡◌, ℕ, zero, suc, ◌+◌, true, ◌&&◌, eqb, leb, List, [], ◌∷◌, length, Some, Ok, Err, Option, Result, sym, refl, ap, ◌∙◌, subst, arith}
use Rattle.std.proofs.lemmas.Bool.{and_parts, and_from}
use Rattle.rows.specs.Numbers.{all_of}
use Rattle.rows.specs.Rows.{Row}
use Rattle.rows.specs.declared.ImportRecord.{ImportRecord}
use Rattle.packed_layout.specs.declared.faults.RecordFault.{RecordFault}
use Rattle.packed_layout.specs.declared.faults.RecordFault.TheVariants.{EndsInside, UnknownKind, BrokenLayout}
use Rattle.packed_layout.specs.Codec.{Codec, when, text, number, within, ◌then◌, seen, read_times, read_whole, alone}
use Rattle.packed_layout.specs.Records.{Read, entries, broken, also, header, first_record, read_records}
use Rattle.packed_layout.specs.Layout.{Head, Entry, entry, row, rows, row_of, head_of, fields, head, name, count, import_record, import_records, sort, flags, exports_kind, allowed, read_all}
use Rattle.packed_layout.proofs.Codecs.{never, when-some, bind-some, some_inj, text-wrote}
use Rattle.packed_layout.proofs.Framing.{passed, ok-inj}
use Rattle.project.specs.Projects.{is_name, limited}

-- every value that is read has the property
record Gives {A : Type 0} (c : Codec A) (P : A → Type 0) : Type 0 where
  gives : (s : List ℕ) (p : A × List ℕ) → c.read s ≡ Some p → P p.0

anything : {A : Type 0} (c : Codec A) → Gives c (λ _. Unit {0})
anything c = record { gives = λ s p e. tt }

then-gives : {A B : Type 0} {c : Codec A} {d : Codec B} {F : A → Type 0} {G : B → Type 0} → Gives c F → Gives d G → Gives (c then d) (λ p. F p.0 × G p.1)
then-gives {A} {B} {c} {d} {F} {G} f g = record { gives = both }
  where
    both : (s : List ℕ) (p : (A × B) × List ℕ) → (c then d).read s ≡ Some p → F p.0.0 × G p.0.1
    both s p e =
        let a = bind-some (c.read s) _ p e in
        let b = bind-some (d.read a.0.1) _ p a.2 in
        subst (λ (q : (A × B) × List ℕ). F q.0.0 × G q.0.1) (some_inj b.2) (f.gives s a.0 a.1, g.gives a.0.1 b.0 b.1)

within-gives : (k low high : ℕ) (s : List ℕ) (p : ℕ × List ℕ) → (within k low high).read s ≡ Some p → (leb low p.0 && leb p.0 high) ≡ true
within-gives k low high s p e =
    let a = bind-some ((number k).read s) _ p e in
    let b = bind-some (when (leb low a.0.0 && leb a.0.0 high) a.0.0) _ p a.2 in
    let w = when-some (leb low a.0.0 && leb a.0.0 high) a.0.0 b.0 b.1 in
    let same : a.0.0 ≡ p.0 = w.1 ∙ ap (λ (q : ℕ × List ℕ). q.0) (some_inj b.2) in
    subst (λ n. (leb low n && leb n high) ≡ true) same w.0

name-gives : Gives name (λ s. is_name s ≡ true)
name-gives = record {
  gives = λ s p e.
      let a = bind-some ((within 2 1 1024).read s) _ p e in
      let long = (text-wrote a.0.0 a.0.1 p a.2).1 in
      subst (λ n. (leb 1 n && leb n 1024) ≡ true) (sym long) (within-gives 2 1 1024 s a.0 a.1);
}

times-length : (n : ℕ) (s : List ℕ) (p : List ImportRecord × List ℕ) → read_times import_record n s ≡ Some p → length p.0 ≡ n
times-length zero s p e = sym (ap (λ (q : List ImportRecord × List ℕ). length q.0) (some_inj e))
times-length (suc n) s p e =
    let a = bind-some (import_record.read s) _ p e in
    let b = bind-some (read_times import_record n a.0.1) _ p a.2 in
    let here = ap (λ (q : List ImportRecord × List ℕ). length q.0) (some_inj b.2) in
    sym here ∙ ap suc (times-length n a.0.1 b.0 b.1)

records-give : Gives import_records (λ xs. leb (length xs) 1024 ≡ true)
records-give = record {
  gives = λ s p e.
      let a = bind-some (count.read s) _ p e in
      let long = times-length a.0.0 a.0.1 p a.2 in
      subst (λ n. leb n 1024 ≡ true) (sym long) (and_parts (leb 0 a.0.0) _ (within-gives 2 0 1024 s a.0 a.1)).1;
}

-- the names of a head
abbrev Named : Head → Type 0
Named (_, (_, (_, (_, (_, (id, stable_id)))))) = (is_name id ≡ true) × (is_name stable_id ≡ true)

head-gives : (s : List ℕ) (p : Head × List ℕ) → head.read s ≡ Some p → Named p.0
head-gives s p e =
    let g = (then-gives (anything (number 2)) (then-gives (anything sort) (then-gives (anything flags) (then-gives (anything exports_kind) (then-gives (anything (number 8)) (then-gives name-gives name-gives)))))).gives s p e in
    (g.1.1.1.1.1.0, g.1.1.1.1.1.1)

-- the row that fields make
limited-of : (h : Head) (xs : List ImportRecord) → Named h → leb (length xs) 1024 ≡ true → allowed (row_of h xs).1 ≡ true → limited (row_of h xs).1 ≡ true
limited-of (_, (_, (_, (_, (_, (_, _)))))) xs n few ok = and_from _ _ n.0 (and_from _ _ n.1 (and_from _ _ few ok))

-- a numbered row of any fields
abbrev numbered : Codec (ℕ × Row)
numbered = seen fields (λ f. row_of f.0 f.1) (λ p. (head_of p, p.1.records))

row_gives : (s : List ℕ) (p : (ℕ × Row) × List ℕ) → row.read s ≡ Some p → limited p.0.1 ≡ true
row_gives s p e =
    let a = bind-some (numbered.read s) _ p e in
    let b = bind-some (when (allowed a.0.0.1) a.0.0) _ p a.2 in
    let w = when-some (allowed a.0.0.1) a.0.0 b.0 b.1 in
    let c = bind-some (fields.read s) _ a.0 a.1 in
    let made : (row_of c.0.0.0 c.0.0.1, c.0.1) ≡ a.0 = some_inj c.2 in
    let value : row_of c.0.0.0 c.0.0.1 ≡ a.0.0 = ap (λ (q : (ℕ × Row) × List ℕ). q.0) made in
    let same : a.0.0 ≡ p.0 = w.1 ∙ ap (λ (q : (ℕ × Row) × List ℕ). q.0) (some_inj b.2) in
    let parts = (then-gives {c = head} (record { gives = head-gives }) records-give).gives s c.0 c.1 in
    let fine = limited-of c.0.0.0 c.0.0.1 parts.0 parts.1 (subst (λ (q : ℕ × Row). allowed q.1 ≡ true) (sym value) w.0) in
    subst (λ (q : ℕ × Row). limited q.1 ≡ true) (value ∙ same) fine

record-limited : (s : List ℕ) (r : (ℕ × Row) × ℕ × List ℕ) → first_record rows s ≡ Ok r → limited r.0.1 ≡ true
record-limited s r e =
    passed (header.read s) EndsInside _ r e λ x h e1.
    passed ((text x.0.0).read x.1) EndsInside _ r e1 λ p body e2.
    passed (rows.reader x.0.1) UnknownKind _ r e2 λ read known e3.
    passed (when (leb x.0.0 32768) p.0) BrokenLayout _ r e3 λ payload short e4.
    passed (read payload) BrokenLayout _ r e4 λ a is e5.
    let reader = (when-some (eqb x.0.1 1) (read_whole row) read known).1 in
    let whole : read_whole row payload ≡ Some a = ap (λ (f : List ℕ → Option (ℕ × Row)). f payload) reader ∙ is in
    subst (λ (q : (ℕ × Row) × ℕ × List ℕ). limited q.0.1 ≡ true) (ok-inj e5) (whole-limited payload a whole)
  where
    alone-is : (p : (ℕ × Row) × List ℕ) (a : ℕ × Row) → alone p ≡ Some a → p.0 ≡ a
    alone-is (b, []) a e = some_inj e
    alone-is (b, x ∷ xs) a e = never _ e

    whole-limited : (t : List ℕ) (a : ℕ × Row) → read_whole row t ≡ Some a → limited a.1 ≡ true
    whole-limited t a h =
        let b = bind-some (row.read t) alone a h in
        subst (λ (q : ℕ × Row). limited q.1 ≡ true) (alone-is b.0 a b.2) (row_gives t b.0 b.1)

-- a list of entries whose rows are as the layout allows them
abbrev pub AllLimited : List Entry → Type 0
AllLimited es = all_of (λ (e : Entry). limited e.row) es ≡ true

also-limited : (e : Entry) (q : Read Entry) (es : List Entry) → limited e.row ≡ true → ((fs : List Entry) → q ≡ entries fs → AllLimited fs) → also e q ≡ entries es → AllLimited es
also-limited e (broken a) es h ih p = let z : ◌≡◌ {A = ℕ} 0 1 = cc in absurd (omega arith)
also-limited e (entries fs) es h ih p =
    let same : e ∷ fs ≡ es = cc in
    subst AllLimited same (and_from _ _ h (ih fs refl))

step-limited : (n offset : ℕ) (r : Result ((ℕ × Row) × ℕ × List ℕ) RecordFault) (s : List ℕ) (es : List Entry) → first_record rows s ≡ r
    → ((k : ℕ) (t : List ℕ) (fs : List Entry) → read_records rows entry n k t ≡ entries fs → AllLimited fs)
    → elim r [ Err fault ↦ broken (record { fault = fault; offset = offset }) | Ok x ↦ also (entry offset x.0) (read_records rows entry n (offset + x.1) x.2) ] ≡ entries es → AllLimited es
step-limited n offset (Err fault) s es e ih p = let z : ◌≡◌ {A = ℕ} 0 1 = cc in absurd (omega arith)
step-limited n offset (Ok x) s es e ih p = also-limited (entry offset x.0) (read_records rows entry n (offset + x.1) x.2) es (record-limited s x e) (ih (offset + x.1) x.2) p

records-limited : (fuel offset : ℕ) (s : List ℕ) (es : List Entry) → read_records rows entry fuel offset s ≡ entries es → AllLimited es
records-limited zero offset s es e = let same : ◌≡◌ {A = List Entry} [] es = cc in subst AllLimited same refl
records-limited (suc fuel) offset [] es e = let same : ◌≡◌ {A = List Entry} [] es = cc in subst AllLimited same refl
records-limited (suc fuel) offset (b ∷ bs) es e = step-limited fuel offset (first_record rows (b ∷ bs)) (b ∷ bs) es refl (records-limited fuel) e

pub read-limited : (s : List ℕ) (es : List Entry) → read_all s ≡ entries es → AllLimited es
read-limited s es e = records-limited (length s) 0 s es e
