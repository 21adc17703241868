-- Reading import records one after another.
use Rattle.std.proofs.Common.{◌≡◌, ℕ, zero, suc, true, false, eqb, List, [], ◌∷◌, length, is_some, Some, None, Option, sym, refl, ap, ◌∙◌, arith}
use Rattle.std.proofs.lemmas.Bool.{false≢true, ne_eqb}
use Rattle.rows.specs.declared.ImportRecord.{ImportRecord}
use Rattle.packed_layout.specs.Codec.{Codec, bind, alone, times, read_times, read_whole}
use Rattle.packed_layout.specs.Layout.{import_record}
use Rattle.packed_layout.proofs.Codecs.{some_inj, bind-some}
use Rattle.packed.specs.Imports.{Whole}
use Rattle.packed.specs.Views.{records_in}

-- exactly so many import records, and nothing after them
abbrev pub whole : ℕ → List ℕ → Option (List ImportRecord)
whole n s = read_whole (times import_record n) s

abbrev more : ImportRecord → List ImportRecord × List ℕ → Option (List ImportRecord × List ℕ)
more e p = Some (e ∷ p.0, p.1)

one_more : (e : ImportRecord) (o : Option (List ImportRecord × List ℕ)) → is_some (bind (bind o (more e)) alone) ≡ is_some (bind o alone)
one_more e None = refl
one_more e (Some (es, [])) = refl
one_more e (Some (es, b ∷ bs)) = refl

-- one more that is there
pub imports-step : (m n : ℕ) (s : List ℕ) (e : ImportRecord) (t : List ℕ) → Some (e, t) ≡ import_record.read s → m ≡ suc n → is_some (whole m s) ≡ is_some (whole n t)
imports-step m n s e t p q =
    let after : ImportRecord × List ℕ → Option (List ImportRecord × List ℕ) = λ a. bind (read_times import_record n a.1) (more a.0) in
    ap (λ (k : ℕ). is_some (whole k s)) q ∙ ap (λ (o : Option (ImportRecord × List ℕ)). is_some (bind (bind o after) alone)) (sym p) ∙ one_more e (read_times import_record n t)

-- one that is not
pub imports-fail : (m n : ℕ) (s : List ℕ) → None ≡ import_record.read s → m ≡ suc n → is_some (whole m s) ≡ false
imports-fail m n s p q =
    let after : ImportRecord × List ℕ → Option (List ImportRecord × List ℕ) = λ a. bind (read_times import_record n a.1) (more a.0) in
    ap (λ (k : ℕ). is_some (whole k s)) q ∙ ap (λ (o : Option (ImportRecord × List ℕ)). is_some (bind (bind o after) alone)) (sym p)

-- no more
pub imports-end : (m : ℕ) (s : List ℕ) → m ≡ 0 → is_some (whole m s) ≡ eqb (length s) 0
imports-end m [] q = ap (λ (k : ℕ). is_some (whole k [])) q
imports-end m (b ∷ bs) q = ap (λ (k : ℕ). is_some (whole k (b ∷ bs))) q ∙ sym (ne_eqb (suc (length bs)) 0 (λ e. omega arith))

-- as many records as were asked for
pub times-length : {A : Type 0} (c : Codec A) (n : ℕ) (s : List ℕ) (p : List A × List ℕ) → read_times c n s ≡ Some p → length p.0 ≡ n
times-length c zero s p e = ap (λ q. length q.0) (sym (some_inj e))
times-length c (suc n) s p e =
    let a = bind-some (c.read s) _ p e in
    let b = bind-some (read_times c n a.0.1) _ p a.2 in
    ap (λ q. length q.0) (sym (some_inj b.2)) ∙ ap suc (times-length c n a.0.1 b.0 b.1)

-- the records that were read, or none
abbrev pub listed : Option (List ImportRecord × List ℕ) → List ImportRecord
listed o = elim o [ None ↦ [] | Some p ↦ p.0 ]

count_by : (n : ℕ) (s : List ℕ) (o : Option (List ImportRecord × List ℕ)) → read_times import_record n s ≡ o → is_some (bind o alone) ≡ true → length (listed o) ≡ n
count_by n s None e w = absurd (false≢true w)
count_by n s (Some p) e w = times-length import_record n s p e

-- as many records as are counted
pub count-is : (n : ℕ) (s : List ℕ) → Whole n s → length (records_in n s) ≡ n
count-is n s w = count_by n s (read_times import_record n s) refl w
