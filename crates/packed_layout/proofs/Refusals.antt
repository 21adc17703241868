-- Why a record is refused.
use Rattle.std.proofs.Common.{◌≡◌, ℕ, ◌+◌, ◌<◌, ◌≤◌, leb, List, ◌++◌, length, take, drop, Some, None, Ok, Err, Option, Result, sym, refl, ap, ◌∙◌, inl, inr, ⊎_elim, arith, length-drop}
use Rattle.std.proofs.lemmas.List.{drop-drop}
use Rattle.std.proofs.lemmas.Bool.{le-leb, lt-leb, cases_lt}
use Rattle.packed_layout.specs.declared.faults.RecordFault.{RecordFault}
use Rattle.packed_layout.specs.declared.faults.RecordFault.TheVariants.{EndsInside, UnknownKind, BrokenLayout}
use Rattle.packed_layout.specs.Codec.{when, text}
use Rattle.packed_layout.specs.Records.{Kinds, header, pack, or_refuse, first_record, size_of, kind_of, Why, RefusedFor}
use Rattle.packed_layout.proofs.Codecs.{never}
use Rattle.packed_layout.proofs.Framing.{KindsLawful, record-reads}

text-here : (n : ℕ) (s : List ℕ) → n ≤ length s → (text n).read s ≡ Some (take n s, drop n s)
text-here n s h = rw (le-leb n (length s) h)

text-past : (n : ℕ) (s : List ℕ) → length s < n → (text n).read s ≡ None
text-past n s h = rw (lt-leb n (length s) h)

header-here : (s : List ℕ) → 6 ≤ length s → header.read s ≡ Some ((size_of s, kind_of s), drop 6 s)
header-here s h =
    let late : 2 ≤ length (drop 4 s) = simp length-drop (omega arith) in
    rw (text-here 4 s (omega arith), text-here 2 (drop 4 s) late, drop-drop 2 4 s)

header-past : (s : List ℕ) → length s < 6 → header.read s ≡ None
header-past s h = elim (cases_lt (length s) 4) [ inl l ↦ rw (text-past 4 s l) | inr l ↦ (let late : length (drop 4 s) < 2 = simp length-drop (omega arith) in rw (text-here 4 s l, text-past 2 (drop 4 s) late)) ]

err-inj : {A : Type 0} {m n : RecordFault} → ◌≡◌ {A = Result A RecordFault} (Err m) (Err n) → n ≡ m
err-inj e = cc

ok-err : {A : Type 0} {a : A} (n : RecordFault) → ◌≡◌ {A = Result A RecordFault} (Ok a) (Err n) → n ≡ BrokenLayout
ok-err n e = cc

or-bad : {X B : Type 0} (n : RecordFault) (o : Option X) (f : X → Result B RecordFault) → ((x : X) → f x ≡ Err n → n ≡ BrokenLayout) → or_refuse o BrokenLayout f ≡ Err n → n ≡ BrokenLayout
or-bad n None f h e = err-inj e
or-bad n (Some x) f h e = h x e

module _ {A : Type 0} (K : Kinds A) {Fit : A → Type 0} (L : KindsLawful K Fit) where
  none-fits : (n : RecordFault) (s : List ℕ) → first_record K s ≡ Err n → (a : A) (rest : List ℕ) → Fit a → pack K a ++ rest ≡ s → ⊥
  none-fits n s e a rest f q =
      let ok = record-reads K L a rest f in
      let bad : first_record K (pack K a ++ rest) ≡ Err n = ap (first_record K) q ∙ e in
      let z : ◌≡◌ {A = ℕ} 0 1 = cc in
      omega arith

  pub record-refused : RefusedFor K Fit
  record-refused n s e = ⊎_elim cut whole (cases_lt (length s) 6)
    where
      cut : length s < 6 → Why K Fit n s
      cut l = let one : first_record K s ≡ Err EndsInside = rw (header-past s l) in inl (cc, omega arith)

      inside : 6 ≤ length s → length (drop 6 s) < size_of s → Why K Fit n s
      inside l m =
          let one : first_record K s ≡ Err EndsInside = rw (header-here s l, text-past (size_of s) (drop 6 s) m) in
          inl (cc, omega (arith, length-drop 6 s))

      known : 6 ≤ length s → size_of s ≤ length (drop 6 s) → (o : Option (List ℕ → Option A)) → K.reader (kind_of s) ≡ o → Why K Fit n s
      known l m None p =
          let two : first_record K s ≡ Err UnknownKind = rw (header-here s l, text-here (size_of s) (drop 6 s) m, p) in
          inr (inl (cc, omega (arith, length-drop 6 s), p))
      known l m (Some read) p =
          let last : List ℕ → Result (A × ℕ × List ℕ) RecordFault = λ payload. or_refuse (read payload) BrokenLayout (λ a. Ok (a, 6 + size_of s, drop (size_of s) (drop 6 s))) in
          let late : or_refuse (when (leb (size_of s) 32768) (take (size_of s) (drop 6 s))) BrokenLayout last ≡ Err n = rw (header-here s l, text-here (size_of s) (drop 6 s) m, p) at e in
          let three : n ≡ BrokenLayout = or-bad n (when (leb (size_of s) 32768) (take (size_of s) (drop 6 s))) last (λ x q. or-bad n (read x) (λ a. Ok (a, 6 + size_of s, drop (size_of s) (drop 6 s))) (λ a z. ok-err n z) q) late in
          inr (inr (three, omega (arith, length-drop 6 s), (λ q. never _ (sym q ∙ p)), none-fits n s e))

      whole : 6 ≤ length s → Why K Fit n s
      whole l = ⊎_elim (inside l) (λ m. known l m (K.reader (kind_of s)) refl) (cases_lt (length (drop 6 s)) (size_of s))
