-- Import records by their places: each takes three bytes.
use Rattle.std.proofs.Common.{◌≡◌, ℕ, zero, suc, ◌+◌, ◌*◌, ◌/◌, ◌<◌, ◌≤◌, List, [], ◌∷◌, length, drop, is_some, Some, None, Option, sym, refl, ap, ◌∙◌, subst, ⊎_elim, true, arith, length-drop}
use Rattle.std.specs.Option.{option_map}
use Rattle.std.specs.List.{slice_get}
use Rattle.std.proofs.lemmas.List.{drop-drop}
use Rattle.std.proofs.lemmas.Option.{slice_get_past}
use Rattle.std.proofs.lemmas.Bool.{cases_lt, false≢true}
use Rattle.rows.specs.declared.ImportRecord.{ImportRecord}
use Rattle.packed_layout.specs.Codec.{Codec, bind, alone, via, number, ◌then◌, find, read_times}
use Rattle.packed_layout.specs.Layout.{kind_code, import_kinds, import_kind, target_code, target_of, target, import_record}
use Rattle.packed_layout.proofs.Codecs.{some_inj, bind-some}
use Rattle.packed.specs.Imports.{Whole}
use Rattle.packed.specs.Views.{records_in}
use Rattle.packed.proofs.Imports.{listed, count-is}
use Rattle.packed.proofs.Offsets.{Follows, number-follows, joins}

-- a view of a codec's value leaves the same bytes after it
via-rest : {A B : Type 0} (c : Codec A) (to : A → Option B) (fro : B → A) (s : List ℕ) (p : B × List ℕ) → (via c to fro).read s ≡ Some p → (a : A × List ℕ) × (c.read s ≡ Some a) × (a.1 ≡ p.1)
via-rest c to fro s p e =
    let a = bind-some (c.read s) _ p e in
    let b = bind-some (to a.0.0) _ p a.2 in
    (a.0, a.1, ap (λ q. q.1) (some_inj b.2))

number-via : {B : Type 0} (k : ℕ) (to : ℕ → Option B) (fro : B → ℕ) (s : List ℕ) (p : B × List ℕ) → (via (number k) to fro).read s ≡ Some p → Follows k s p.1
number-via k to fro s p e =
    let a = via-rest (number k) to fro s p e in
    subst (Follows k s) a.2 (number-follows k s a.0 a.1)

pub import-follows : (s : List ℕ) (p : ImportRecord × List ℕ) → import_record.read s ≡ Some p → Follows 3 s p.1
import-follows s p e =
    let a = via-rest (import_kind then target) (λ q. Some (record { kind = q.0; target = q.1 })) (λ r. (r.kind, r.target)) s p e in
    let k = bind-some (import_kind.read s) _ a.0 a.1 in
    let t = bind-some (target.read k.0.1) _ a.0 k.2 in
    let rest : t.0.1 ≡ p.1 = ap (λ q. q.1) (some_inj t.2) ∙ a.2 in
    subst (Follows 3 s) rest (joins 1 2 s k.0.1 t.0.1 (number-via 1 (find kind_code import_kinds) kind_code s k.0 k.1) (number-via 2 (λ n. Some (target_of n)) target_code k.0.1 t.0 t.1))

-- so many import records take three bytes each
times-bytes : (n : ℕ) (s : List ℕ) (p : List ImportRecord × List ℕ) → read_times import_record n s ≡ Some p → length s ≡ 3 * n + length p.1
times-bytes zero s p e = let q = ap (λ (x : List ImportRecord × List ℕ). length x.1) (some_inj e) in omega (arith, q)
times-bytes (suc n) s p e =
    let a = bind-some (import_record.read s) _ p e in
    let b = bind-some (read_times import_record n a.0.1) _ p a.2 in
    let f = import-follows s a.0 a.1 in
    let rest = ap (λ (x : List ImportRecord × List ℕ). length x.1) (some_inj b.2) in
    omega (arith, times-bytes n a.0.1 b.0 b.1, f.within, ap length f.rest-is, length-drop 3 s, rest)

-- the import record at a place
abbrev pub import_at : List ℕ → ℕ → Option ImportRecord
import_at s j = option_map (λ (p : ImportRecord × List ℕ). p.0) (import_record.read (drop (3 * j) s))

none-short : (s : List ℕ) (o : Option (ImportRecord × List ℕ)) → import_record.read s ≡ o → length s < 3 → o ≡ None
none-short s None e h = refl
none-short s (Some p) e h = let f = import-follows s p e in absurd (omega (arith, f.within))

-- none is read past the last whole three bytes
pub import-past : (s : List ℕ) (j : ℕ) → length s / 3 ≤ j → None ≡ import_at s j
import-past s j h = ap (option_map (λ (p : ImportRecord × List ℕ). p.0)) (sym (none-short (drop (3 * j) s) (import_record.read (drop (3 * j) s)) refl (simp length-drop (omega arith))))

import-nth : (n : ℕ) (s : List ℕ) (p : List ImportRecord × List ℕ) (j : ℕ) → read_times import_record n s ≡ Some p → j < n → slice_get p.0 j ≡ import_at s j
import-nth zero s p j e h = absurd (omega arith)
import-nth (suc n) s p zero e h =
    let a = bind-some (import_record.read s) _ p e in
    let b = bind-some (read_times import_record n a.0.1) _ p a.2 in
    let es : p.0 ≡ a.0.0 ∷ b.0.0 = sym (ap (λ (x : List ImportRecord × List ℕ). x.0) (some_inj b.2)) in
    ap (λ (z : List ImportRecord). slice_get z 0) es ∙ sym (ap (option_map (λ (q : ImportRecord × List ℕ). q.0)) a.1)
import-nth (suc n) s p (suc j) e h =
    let a = bind-some (import_record.read s) _ p e in
    let b = bind-some (read_times import_record n a.0.1) _ p a.2 in
    let f = import-follows s a.0 a.1 in
    let es : p.0 ≡ a.0.0 ∷ b.0.0 = sym (ap (λ (x : List ImportRecord × List ℕ). x.0) (some_inj b.2)) in
    let far : 3 + 3 * j ≡ 3 * suc j = omega arith in
    let d : drop (3 * j) a.0.1 ≡ drop (3 * suc j) s = ap (drop (3 * j)) f.rest-is ∙ drop-drop (3 * j) 3 s ∙ ap (λ (k : ℕ). drop k s) far in
    ap (λ (z : List ImportRecord). slice_get z (suc j)) es ∙ import-nth n a.0.1 b.0 j b.1 (omega arith) ∙ ap (λ (t : List ℕ). option_map (λ (q : ImportRecord × List ℕ). q.0) (import_record.read t)) d

nth-by : (n : ℕ) (s : List ℕ) (o : Option (List ImportRecord × List ℕ)) → read_times import_record n s ≡ o → is_some (bind o alone) ≡ true → (j : ℕ) → j < n → import_at s j ≡ slice_get (listed o) j
nth-by n s None e w j h = absurd (false≢true w)
nth-by n s (Some p) e w j h = sym (import-nth n s p j e h)

bytes-by : (n : ℕ) (s : List ℕ) (o : Option (List ImportRecord × List ℕ)) → read_times import_record n s ≡ o → is_some (bind o alone) ≡ true → length s ≡ 3 * n
bytes-by n s None e w = absurd (false≢true w)
bytes-by n s (Some (es, [])) e w = omega (arith, times-bytes n s (es, []) e)
bytes-by n s (Some (es, b ∷ bs)) e w = absurd (false≢true w)

module _ (n : ℕ) (s : List ℕ) (w : Whole n s) where
  pub bytes-are : length s ≡ 3 * n
  bytes-are = bytes-by n s (read_times import_record n s) refl w

  -- what is read at a place is the record of that number
  pub nth-is : (j : ℕ) → j < n → import_at s j ≡ slice_get (records_in n s) j
  nth-is j h = nth-by n s (read_times import_record n s) refl w j h

  pub nth-past : (j : ℕ) → n ≤ j → None ≡ slice_get (records_in n s) j
  nth-past j h = sym (slice_get_past (records_in n s) j (omega (arith, count-is n s w)))

  -- what is read at any place is the record of that number, or none
  pub import-is : (j : ℕ) → import_at s j ≡ slice_get (records_in n s) j
  import-is j =
      ⊎_elim (λ (h : j < n). nth-is j h)
      (λ (h : n ≤ j). sym (import-past s j (omega (arith, bytes-are))) ∙ nth-past j h)
      (cases_lt j n)
