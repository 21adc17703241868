-- Lists of packed records, over payloads that hold to their layouts.
use Rattle.std.proofs.Common.{◌≡◌, ℕ, zero, suc, ◌+◌, ◌^◌, ◌<◌, ◌≤◌, eqb, leb, List, [], ◌∷◌, ◌++◌, length, Some, None, Ok, Err, Option, Result, sym, refl, ap, ◌∙◌, subst, add-zero, add_assoc, arith}
use Rattle.std.specs.List.{AllByRecursion}
use Rattle.std.proofs.lemmas.List.{append-nil, append_assoc, length-append}
use Rattle.std.proofs.lemmas.Bool.{le-leb, leb-true, eqb-true, eq-eqb}
use Rattle.packed_layout.specs.declared.faults.RecordFault.{RecordFault}
use Rattle.packed_layout.specs.declared.faults.RecordFault.TheVariants.{EndsInside, UnknownKind, BrokenLayout}
use Rattle.packed_layout.specs.Codec.{Codec, when, bind, text, read_whole, Bytes}
use Rattle.packed_layout.specs.Records.{Kinds, only, header, pack, pack_all, or_refuse, first_record, Read, entries, broken, broken_at, also, read_records, entries_at, Made, Broken, ListIsRead, ListWasPacked, ListIsRefused, ListWasRefused}
use Rattle.packed_layout.proofs.Codecs.{Lawful, when-some, bind-some, bytes-first, bytes_rest, text-reads, text-wrote, number-lawful, then-lawful, whole-reads, whole-wrote}

abbrev read_kind : {A : Type 0} → Kinds A → ℕ → List ℕ → Option A
read_kind K k s = bind (K.reader k) (λ read. read s)

-- kinds whose payloads hold to their layouts
pub record KindsLawful {A : Type 0} (K : Kinds A) (Fit : A → Type 0) : Type 0 where
  pub kinds : (a : A) → Fit a → K.kind a < 65536
  pub short : (a : A) → Fit a → length (K.write a) ≤ 32768
  pub reads : (a : A) → Fit a → read_kind K (K.kind a) (K.write a) ≡ Some a
  pub wrote : (k : ℕ) (s : List ℕ) (a : A) → Bytes s → length s ≤ 32768 → read_kind K k s ≡ Some a → (K.kind a ≡ k) × (K.write a ≡ s) × Fit a

pub only-lawful : {A : Type 0} {c : Codec A} {Fit : A → Type 0} (k : ℕ) → k < 65536 → Lawful c Fit → KindsLawful (only k c) (λ a. Fit a × (length (c.write a) ≤ 32768))
only-lawful {A} {c} {Fit} k small C = record { kinds = λ _ _. small; short = λ _ f. f.1; reads = reads; wrote = wrote }
  where
    reads : (a : A) → Fit a × (length (c.write a) ≤ 32768) → read_kind (only k c) k (c.write a) ≡ Some a
    reads a f = rw (eq-eqb k k refl) (whole-reads C a f.0)

    wrote : (n : ℕ) (s : List ℕ) (a : A) → Bytes s → length s ≤ 32768 → read_kind (only k c) n s ≡ Some a → (k ≡ n) × (c.write a ≡ s) × (Fit a × (length (c.write a) ≤ 32768))
    wrote n s a h l e =
        let r = bind-some (when (eqb n k) (read_whole c)) (λ read. read s) a e in
        let w = when-some (eqb n k) (read_whole c) r.0 r.1 in
        let q : read_whole c s ≡ Some a = ap (λ (f : List ℕ → Option A). f s) w.1 ∙ r.2 in
        let p = whole-wrote C s a h q in
        (sym (eqb-true n k w.0), sym p.0, (p.1, rw (← p.0) l))

pub kinds-fit : {A : Type 0} {K : Kinds A} {F G : A → Type 0} → KindsLawful K F → ((a : A) → G a → F a) → ((a : A) → F a → G a) → KindsLawful K G
kinds-fit L there back = record { kinds = λ a g. L.kinds a (there a g); short = λ a g. L.short a (there a g); reads = λ a g. L.reads a (there a g); wrote = λ k s a h l e. let w = L.wrote k s a h l e in (w.0, w.1, back a w.2) }

header-lawful : Lawful header (λ p. (p.0 < 256 ^ 4) × (p.1 < 256 ^ 2))
header-lawful = then-lawful (number-lawful 4) (number-lawful 2)

pub ok-inj : {A B : Type 0} {a b : A} → ◌≡◌ {A = Result A B} (Ok a) (Ok b) → a ≡ b
ok-inj e = cc

-- what a reader that was not refused has passed, handed on
pub passed : {A B P : Type 0} (o : Option A) (n : RecordFault) (f : A → Result B RecordFault) (b : B) → or_refuse o n f ≡ Ok b → ((a : A) → o ≡ Some a → f a ≡ Ok b → P) → P
passed None n f b e go = let z : ◌≡◌ {A = ℕ} 0 1 = cc in absurd (omega arith)
passed (Some a) n f b e go = go a refl e

module _ {A : Type 0} (K : Kinds A) {Fit : A → Type 0} (L : KindsLawful K Fit) where
  pub length-pack : (a : A) → length (pack K a) ≡ 6 + length (K.write a)
  length-pack a = omega arith

  pub record-reads : (a : A) (rest : List ℕ) → Fit a → first_record K (pack K a ++ rest) ≡ Ok (a, 6 + length (K.write a), rest)
  record-reads a rest f =
      let size = length (K.write a) in
      let short = L.short a f in
      let kinds = L.kinds a f in
      let r = bind-some (K.reader (K.kind a)) (λ read. read (K.write a)) a (L.reads a f) in
      rw (header-lawful.reads (size, K.kind a) (K.write a ++ rest) (omega arith, kinds), text-reads (K.write a) rest, r.1, le-leb size 32768 short, r.2)

  pub record Packed (s : List ℕ) (r : A × ℕ × List ℕ) : Type 0 where
    pub split : pack K r.0 ++ r.2 ≡ s
    pub size : r.1 ≡ length (pack K r.0)
    pub fits : Fit r.0

  pub record-wrote : (s : List ℕ) (r : A × ℕ × List ℕ) → Bytes s → first_record K s ≡ Ok r → Packed s r
  record-wrote s r h e =
      passed (header.read s) EndsInside _ r e λ x head e1.
      passed ((text x.0.0).read x.1) EndsInside _ r e1 λ p body e2.
      passed (K.reader x.0.1) UnknownKind _ r e2 λ read known e3.
      passed (when (leb x.0.0 32768) p.0) BrokenLayout _ r e3 λ payload short e4.
      passed (read payload) BrokenLayout _ r e4 λ a is e5.
      let w = header-lawful.wrote s x h head in
      let t = text-wrote x.0.0 x.1 p body in
      let later : Bytes x.1 = bytes_rest (header.write x.0) x.1 (subst Bytes w.0 h) in
      let made : Bytes p.0 = bytes-first p.0 p.1 (subst Bytes t.0 later) in
      let small = when-some (leb x.0.0 32768) p.0 payload short in
      let read' : read_kind K x.0.1 p.0 ≡ Some a = rw (known, small.1) is in
      let q = L.wrote x.0.1 p.0 a made (rw t.1 (leb-true x.0.0 32768 small.0)) read' in
      subst (Packed s) (ok-inj e5) (record { split = rw (q.1, t.1, q.0) (sym (w.0 ∙ ap (λ rest. header.write x.0 ++ rest) t.0)); size = rw q.1 (omega arith); fits = q.2 })

  module _ {E : Type 0} (entry : ℕ → A → E) where
    -- what the reading of a list tells of its bytes, from an offset on
    abbrev Told : ℕ → List ℕ → Read E → Type 0
    Told offset s (entries es) = (xs : List A) × Made K entry Fit offset s es xs
    Told offset s (broken a) = (xs : List A) × (rest : List ℕ) × Broken K entry Fit offset s a.fault a.offset xs rest

    also-told : (offset : ℕ) (s : List ℕ) (r : A × ℕ × List ℕ) → Packed s r → (later : Read E) → Told (offset + r.1) r.2 later → Told offset s (also (entry offset r.0) later)
    also-told offset s r p (entries es) (xs, m) = (r.0 ∷ xs, record { packed = rw m.packed p.split; placed = rw (← p.size, m.placed); fit = (p.fits, m.fit) })
    also-told offset s r p (broken a) (xs, rest, b) = (r.0 ∷ xs, rest, record { split = rw (append_assoc, b.split) p.split; fit = (p.fits, b.fit); place = rw (length-append, ← p.size, ← add_assoc) b.place; some = b.some; refused = b.refused })

    told : (fuel offset : ℕ) (s : List ℕ) → length s ≤ fuel → Bytes s → Told offset s (read_records K entry fuel offset s)
    told zero offset [] l h = ([], record { packed = refl; placed = refl; fit = tt })
    told zero offset (b ∷ bs) l h = absurd (omega arith)
    told (suc fuel) offset [] l h = ([], record { packed = refl; placed = refl; fit = tt })
    told (suc fuel) offset (b ∷ bs) l h = go (told fuel) (first_record K (b ∷ bs)) refl
      where
        s : List ℕ
        s = b ∷ bs

        go : ((offset : ℕ) (s : List ℕ) → length s ≤ fuel → Bytes s → Told offset s (read_records K entry fuel offset s)) → (r : Result (A × ℕ × List ℕ) RecordFault) → first_record K s ≡ r → Told offset s (elim r as (λ _. Read E) [ Err n ↦ broken_at n offset | Ok r ↦ also (entry offset r.0) (read_records K entry fuel (offset + r.1) r.2) ])
        go ih (Err n) e = ([], s, record { split = refl; fit = tt; place = add-zero offset; some = omega arith; refused = e })
        go ih (Ok r) e =
            let p = record-wrote s r h e in
            also-told offset s r p (read_records K entry fuel (offset + r.1) r.2) (ih (offset + r.1) r.2 (omega (arith, simp length-append at (ap length p.split))) (bytes_rest (pack K r.0) r.2 (subst Bytes (sym p.split) h)))

    also_all : List E → Read E → Read E
    also_all [] q = q
    also_all (e ∷ es) q = also e (also_all es q)

    also_all-entries : (es : List E) → also_all es (entries []) ≡ entries es
    unfolding also_all
    also_all-entries [] = refl
    also_all-entries (e ∷ es) = rw (also_all-entries es)

    also_all-broken : (es : List E) (n : RecordFault) (o : ℕ) → also_all es (broken_at n o) ≡ broken_at n o
    unfolding also_all
    also_all-broken [] n o = refl
    also_all-broken (e ∷ es) n o = rw (also_all-broken es n o)

    read_ok : (s : List ℕ) (r : A × ℕ × List ℕ) (fuel offset : ℕ) → 1 ≤ length s → first_record K s ≡ Ok r → read_records K entry (suc fuel) offset s ≡ also (entry offset r.0) (read_records K entry fuel (offset + r.1) r.2)
    read_ok [] r fuel offset some e = absurd (omega arith)
    read_ok (b ∷ bs) r fuel offset some e = rw (e, read_records)

    -- records that fit are read one by one, and what stands behind them is read after them
    after-records : (xs : List A) (rest : List ℕ) (q : Read E) (fuel offset : ℕ) → AllByRecursion Fit xs → length (pack_all K xs ++ rest) ≤ fuel → ((fuel : ℕ) → length rest ≤ fuel → read_records K entry fuel (offset + length (pack_all K xs)) rest ≡ q) → read_records K entry fuel offset (pack_all K xs ++ rest) ≡ also_all (entries_at K entry offset xs) q
    unfolding also_all
    after-records [] rest q fuel offset f l after = rw add-zero at (after fuel l)
    after-records (x ∷ xs) rest q zero offset f l after = absurd (omega arith)
    after-records (x ∷ xs) rest q (suc fuel) offset f l after =
        let tail = pack_all K xs ++ rest in
        let long : length (K.write x) + length tail < suc fuel = simp length-append (omega (arith, simp length-append at l)) in
        let size : 6 + length (K.write x) ≡ length (pack K x) = sym (length-pack x) in
        let later : (fuel : ℕ) → length rest ≤ fuel → read_records K entry fuel ((offset + length (pack K x)) + length (pack_all K xs)) rest ≡ q = λ fuel l. let e = after fuel l in rw (add_assoc, ← length-append (pack K x) (pack_all K xs)) e in
        rw (append_assoc (K.write x) (pack_all K xs) rest) (read_ok (pack K x ++ tail) _ fuel offset (omega arith) (record-reads x tail f.0) ∙ rw size (ap (also (entry offset x)) (after-records xs rest q fuel (offset + length (pack K x)) f.1 (omega arith) later)))

    nothing_left : (fuel offset : ℕ) → read_records K entry fuel offset [] ≡ entries []
    nothing_left zero offset = refl
    nothing_left (suc fuel) offset = refl

    pub list-is-read : ListIsRead K entry Fit
    list-is-read xs f =
        let s = pack_all K xs in
        let all = after-records xs [] (entries []) (length s) 0 f (simp append-nil (omega arith)) (λ fuel _. nothing_left fuel _) in
        (simp append-nil at all) ∙ also_all-entries (entries_at K entry 0 xs)

    refused-here : (rest : List ℕ) (n : RecordFault) (fuel offset : ℕ) → 1 ≤ length rest → first_record K rest ≡ Err n → length rest ≤ fuel → read_records K entry fuel offset rest ≡ broken_at n offset
    refused-here [] n fuel offset some e l = absurd (omega arith)
    refused-here (b ∷ bs) n zero offset some e l = absurd (omega arith)
    refused-here (b ∷ bs) n (suc fuel) offset some e l = rw (e, read_records)

    pub list-is-refused : ListIsRefused K entry Fit
    list-is-refused s n o xs rest b =
        let all = after-records xs rest (broken_at n o) (length s) 0 b.fit (rw b.split (omega arith)) (λ fuel l. rw (← b.place) (refused-here rest n fuel _ b.some b.refused l)) in
        (rw b.split at all) ∙ also_all-broken (entries_at K entry 0 xs) n o

    pub list-was-packed : ListWasPacked K entry Fit
    list-was-packed s es h e = subst (Told 0 s) e (told (length s) 0 s (omega arith) h)

    pub list-was-refused : ListWasRefused K entry Fit
    list-was-refused s n o h e = subst (Told 0 s) e (told (length s) 0 s (omega arith) h)
