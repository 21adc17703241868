-- A record at an offset, and what is read from there on.
use Rattle.std.proofs.Common.{◌≡◌, ℕ, ◌+◌, ◌-◌, ◌<◌, ◌≤◌, leb, ◌⊎◌, List, length, take, drop, Some, None, Ok, Err, Option, Result, sym, refl, ap, ◌∙◌, subst, inl, inr, ⊎_elim, arith, length-drop}
use Rattle.std.proofs.lemmas.List.{take_rest, drop-drop}
use Rattle.std.proofs.lemmas.Bool.{lt-leb, le-leb, leb-true, cond-false, cond-true, cases_lt}
use Rattle.rows.specs.Rows.{Row}
use Rattle.packed_layout.specs.declared.faults.RecordFault.{RecordFault}
use Rattle.packed_layout.specs.declared.faults.RecordFault.TheVariants.{EndsInside, UnknownKind, BrokenLayout}
use Rattle.packed_layout.specs.declared.faults.FaultAt.{FaultAt}
use Rattle.packed_layout.specs.Codec.{when, text, number}
use Rattle.packed_layout.specs.Records.{Kinds, header, first_record}
use Rattle.packed_layout.specs.Layout.{Entry, entry, rows}
use Rattle.packed.specs.Views.{placed, sized, read_at}
use Rattle.packed_layout.proofs.Codecs.{when-some, bind-some, some_inj}
use Rattle.packed_layout.proofs.Framing.{passed, ok-inj}

-- what follows some bytes
pub record Follows (n : ℕ) (s rest : List ℕ) : Type 0 where
  pub within : n ≤ length s
  pub rest-is : rest ≡ drop n s

text-follows : (n : ℕ) (s : List ℕ) (p : List ℕ × List ℕ) → (text n).read s ≡ Some p → Follows n s p.1
text-follows n s p e =
    let w = when-some (leb n (length s)) (take n s, drop n s) p e in
    record { within = leb-true n (length s) w.0; rest-is = ap (λ (q : List ℕ × List ℕ). q.1) (sym w.1) }

pub number-follows : (k : ℕ) (s : List ℕ) (p : ℕ × List ℕ) → (number k).read s ≡ Some p → Follows k s p.1
number-follows k s p e =
    let a = bind-some ((text k).read s) _ p e in
    subst (λ (q : ℕ × List ℕ). Follows k s q.1) (some_inj a.2) (text-follows k s a.0 a.1)

pub joins : (m n : ℕ) (s t u : List ℕ) → Follows m s t → Follows n t u → Follows (m + n) s u
joins m n s t u f g =
    let long : n ≤ length (drop m s) = subst (λ (x : List ℕ). n ≤ length x) f.rest-is g.within in
    record { within = omega (arith, length-drop m s, f.within); rest-is = g.rest-is ∙ ap (drop n) f.rest-is ∙ drop-drop n m s }

header-follows : (s : List ℕ) (p : (ℕ × ℕ) × List ℕ) → header.read s ≡ Some p → Follows 6 s p.1
header-follows s p e =
    let a = bind-some ((number 4).read s) _ p e in
    let b = bind-some ((number 2).read a.0.1) _ p a.2 in
    subst (λ (q : (ℕ × ℕ) × List ℕ). Follows 6 s q.1) (some_inj b.2) (joins 4 2 s a.0.1 b.0.1 (number-follows 4 s a.0 a.1) (number-follows 2 a.0.1 b.0 b.1))

-- a record that is read has a header, and lies within its bytes
pub record Taken (s : List ℕ) (size : ℕ) (rest : List ℕ) : Type 0 where
  pub some : 6 ≤ size
  pub follows : Follows size s rest

pub record-taken : {A : Type 0} (K : Kinds A) (s : List ℕ) (r : A × ℕ × List ℕ) → first_record K s ≡ Ok r → Taken s r.1 r.2
record-taken {A} K s r e =
    passed (header.read s) EndsInside _ r e λ x head e1.
    passed ((text x.0.0).read x.1) EndsInside _ r e1 λ p body e2.
    passed (K.reader x.0.1) UnknownKind _ r e2 λ read known e3.
    passed (when (leb x.0.0 32768) p.0) BrokenLayout _ r e3 λ payload short e4.
    passed (read payload) BrokenLayout _ r e4 λ a is e5.
    subst (λ (q : A × ℕ × List ℕ). Taken s q.1 q.2) (ok-inj e5) (record { some = omega arith; follows = joins 6 x.0.0 s x.1 p.1 (header-follows s x head) (text-follows x.0.0 x.1 p body) })

-- what is read at an offset is the record that the bytes after it begin with
pub at_here : (s : List ℕ) (offset : ℕ) (r : Result ((ℕ × Row) × ℕ × List ℕ) RecordFault) → offset < length s → r ≡ first_record rows (take (length s - offset) (drop offset s)) → placed offset r ≡ read_at s offset
at_here s offset r h e =
    ap (placed offset) (e ∙ ap (first_record rows) (take_rest s offset)) ∙ sym (cond-false (leb (length s) offset) (Ok None) (placed offset (first_record rows (drop offset s))) (lt-leb (length s) offset h))

ok-err : {A B : Type 0} (x : A) (y : B) → ◌≡◌ {A = Result A B} (Ok x) (Err y) → ⊥
ok-err x y e = let z : ◌≡◌ {A = ℕ} 0 1 = cc in omega arith

fits-by : (s : List ℕ) (offset : ℕ) (p : (ℕ × Row) × ℕ) → offset < length s → (r : Result ((ℕ × Row) × ℕ × List ℕ) RecordFault) → first_record rows (drop offset s) ≡ r → Ok p ≡ sized r → offset + p.1 ≤ length s
fits-by s offset p h (Ok r) q e =
    let t = record-taken rows (drop offset s) r q in
    let w : r.1 ≤ length (drop offset s) = t.follows.within in
    let same : p ≡ (r.0, r.1) = ok-inj e in
    let size : p.1 ≡ r.1 = ap (λ (x : (ℕ × Row) × ℕ). x.1) same in
    omega (arith, length-drop offset s)
fits-by s offset p h (Err fault) q e = absurd (ok-err p fault e)

-- the sum of an offset and the size of the record there
pub next_fits : (s : List ℕ) (offset : ℕ) (p : (ℕ × Row) × ℕ) → offset < length s → Ok p ≡ sized (first_record rows (take (length s - offset) (drop offset s))) → offset + p.1 ≤ length s
next_fits s offset p h e = fits-by s offset p h (first_record rows (drop offset s)) refl (e ∙ ap (λ t. sized (first_record rows t)) (take_rest s offset))

some-none : (p : Entry × ℕ) → ◌≡◌ {A = Result (Option (Entry × ℕ)) FaultAt} (Ok (Some p)) (Ok None) → ⊥
some-none p e = let z : ◌≡◌ {A = ℕ} 0 1 = cc in omega arith

cases-le : (m n : ℕ) → (m ≤ n) ⊎ (n < m)
cases-le m n = ⊎_elim (λ (h : n < m). inr h) (λ (h : m ≤ n). inl h) (cases_lt n m)

-- what is read at an offset, by the record there
pub past : (s : List ℕ) (offset : ℕ) → length s ≤ offset → read_at s offset ≡ Ok None
past s offset h = cond-true (leb (length s) offset) (Ok None) (placed offset (first_record rows (drop offset s))) (le-leb (length s) offset h)

within : (s : List ℕ) (offset : ℕ) → offset < length s → read_at s offset ≡ placed offset (first_record rows (drop offset s))
within s offset h = cond-false (leb (length s) offset) (Ok None) (placed offset (first_record rows (drop offset s))) (lt-leb (length s) offset h)

-- a record that is read at an offset
pub record Here (s : List ℕ) (offset : ℕ) (e : Entry) (next : ℕ) : Type 0 where
  pub inside : offset < length s
  pub value : ℕ × Row
  pub size : ℕ
  pub is : first_record rows (drop offset s) ≡ Ok (value, size, drop next s)
  pub entry-is : entry offset value ≡ e
  pub next-is : offset + size ≡ next
  pub some : 6 ≤ size

here-by : (s : List ℕ) (offset : ℕ) (e : Entry) (next : ℕ) → offset < length s → (r : Result ((ℕ × Row) × ℕ × List ℕ) RecordFault) → first_record rows (drop offset s) ≡ r → placed offset r ≡ Ok (Some (e, next)) → Here s offset e next
here-by s offset e next h (Err fault) q p = absurd (ok-err (Some (e, next)) (record { fault = fault; offset = offset }) (sym p))
here-by s offset e next h (Ok r) q p =
    let t = record-taken rows (drop offset s) r q in
    let same : (entry offset r.0, offset + r.1) ≡ (e, next) = cc in
    let then : offset + r.1 ≡ next = ap (λ (x : Entry × ℕ). x.1) same in
    let rest : r.2 ≡ drop next s = t.follows.rest-is ∙ drop-drop r.1 offset s ∙ ap (λ (n : ℕ). drop n s) then in
    record { inside = h; value = r.0; size = r.1; is = q ∙ ap (λ (x : List ℕ). Ok (r.0, r.1, x)) rest; entry-is = ap (λ (x : Entry × ℕ). x.0) same; next-is = then; some = t.some }

pub here : (s : List ℕ) (offset : ℕ) (e : Entry) (next : ℕ) → Ok (Some (e, next)) ≡ read_at s offset → Here s offset e next
here s offset e next p =
    ⊎_elim (λ (h : length s ≤ offset). absurd (some-none (e, next) (p ∙ past s offset h)))
    (λ (h : offset < length s). here-by s offset e next h (first_record rows (drop offset s)) refl (sym (p ∙ within s offset h)))
    (cases-le (length s) offset)

-- a record that is refused at an offset
pub record Fault (s : List ℕ) (offset : ℕ) (a : FaultAt) : Type 0 where
  pub inside : offset < length s
  pub is : first_record rows (drop offset s) ≡ Err a.fault
  pub at-is : record { fault = a.fault; offset = offset } ≡ a

fault-by : (s : List ℕ) (offset : ℕ) (a : FaultAt) → offset < length s → (r : Result ((ℕ × Row) × ℕ × List ℕ) RecordFault) → first_record rows (drop offset s) ≡ r → placed offset r ≡ Err a → Fault s offset a
fault-by s offset a h (Ok r) q p = absurd (ok-err (Some (entry offset r.0, offset + r.1)) a p)
fault-by s offset a h (Err fault) q p =
    let same : record { fault = fault; offset = offset } ≡ a = cc in
    let f : fault ≡ a.fault = ap (λ (x : FaultAt). x.fault) same in
    record { inside = h; is = q ∙ ap Err f; at-is = ap (λ (x : RecordFault). record { fault = x; offset = offset }) (sym f) ∙ same }

pub fault : (s : List ℕ) (offset : ℕ) (a : FaultAt) → Err a ≡ read_at s offset → Fault s offset a
fault s offset a p =
    ⊎_elim (λ (h : length s ≤ offset). absurd (ok-err None a (sym (p ∙ past s offset h))))
    (λ (h : offset < length s). fault-by s offset a h (first_record rows (drop offset s)) refl (sym (p ∙ within s offset h)))
    (cases-le (length s) offset)

end_by : (s : List ℕ) (offset : ℕ) (r : Result ((ℕ × Row) × ℕ × List ℕ) RecordFault) → placed offset r ≡ Ok None → length s ≤ offset
end_by s offset (Ok r) p = absurd (some-none (entry offset r.0, offset + r.1) p)
end_by s offset (Err fault) p = absurd (ok-err None (record { fault = fault; offset = offset }) (sym p))

-- nothing is read at the end of the bytes alone
pub at-end : (s : List ℕ) (offset : ℕ) → Ok None ≡ read_at s offset → length s ≤ offset
at-end s offset p =
    ⊎_elim (λ (h : length s ≤ offset). h)
    (λ (h : offset < length s). end_by s offset (first_record rows (drop offset s)) (sym (p ∙ within s offset h)))
    (cases-le (length s) offset)
