-- A word takes some bytes of its line.
use Rattle.std.proofs.Common.{◌≡◌, ℕ, zero, suc, ◌-◌, ◌<◌, ◌≤◌, Bool, true, false, cond, eqb, List, [], ◌∷◌, length, take, drop, Some, None, refl, sym, ap, ◌∙◌, arith, length-drop}
use Rattle.std.proofs.lemmas.Bool.{eqb-false}
use Rattle.packed_layout.proofs.Codecs.{never, some_inj}
use Rattle.script.specs.declared.words.ByteKind.{ByteKind}
use Rattle.script.specs.declared.words.ByteKind.TheVariants.{Blank, Letter}
use Rattle.script.specs.Words.{kind_of, same_kind, span, trimmed, next_word}

some-by : (b : Bool) (w x : List ℕ × List ℕ) → cond b None (Some w) ≡ Some x → (b ≡ false) × (w ≡ x)
some-by true w x e = never _ e
some-by false w x e = (refl, some_inj e)

span-within : (k : ByteKind) (s : List ℕ) → span k s ≤ length s
span-within k [] = omega arith
span-within k (b ∷ bs) = go (same_kind (kind_of b) k) (span-within k bs)
  where
    go : (t : Bool) → span k bs ≤ length bs → cond t (suc (span k bs)) 0 ≤ suc (length bs)
    go true h = omega arith
    go false h = omega arith

-- a word takes some bytes
pub word-shorter : (s w t : List ℕ) → next_word s ≡ Some (w, t) → length t < length s
word-shorter s w t e =
    let u = trimmed s in
    let n = span Letter u in
    let p = some-by (eqb n 0) (take n u, drop n u) (w, t) e in
    let some : n ≡ 0 → ⊥ = eqb-false n 0 p.0 in
    let rest : drop n u ≡ t = ap (λ (x : List ℕ × List ℕ). x.1) p.1 in
    let fits = span-within Letter u in
    let long : length t ≡ length u - n = ap length (sym rest) ∙ length-drop n u in
    let less : length u ≤ length s = omega (arith, length-drop (span Blank s) s) in
    let pos : 1 ≤ n = positive n some in
    omega (arith, long, less, pos, fits)
  where
    positive : (n : ℕ) → (n ≡ 0 → ⊥) → 1 ≤ n
    positive zero h = absurd (h refl)
    positive (suc n) h = omega arith
