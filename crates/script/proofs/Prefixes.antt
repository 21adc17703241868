-- What stands after a prefix of a word.
use Rattle.std.proofs.Common.{◌≡◌, ℕ, ◌<◌, Bool, true, false, ◌&&◌, eqb, List, [], ◌∷◌, length, take, drop, Some, None, sym, refl, ap, ◌∙◌, arith}
use Rattle.std.specs.Str.{bytes_eq}
use Rattle.std.proofs.lemmas.List.{take_all}
use Rattle.packed_layout.specs.Codec.{when}
use Rattle.script.specs.Words.{stripped}

and-false : (b : Bool) → (b && false) ≡ false
and-false true = refl
and-false false = refl

shorter : (s p : List ℕ) → length s < length p → bytes_eq s p ≡ false
shorter [] [] h = absurd (omega arith)
shorter [] (y ∷ ys) h = refl
shorter (x ∷ xs) [] h = absurd (omega arith)
shorter (x ∷ xs) (y ∷ ys) h = rw (shorter xs ys (omega arith)) (and-false (eqb x y))

pub strip-short : (p s : List ℕ) → length s < length p → None ≡ stripped p s
strip-short p s h =
    let all : take (length p) s ≡ s = take_all (length p) s (omega arith) in
    sym (ap (λ (t : List ℕ). when (bytes_eq t p) (drop (length p) s)) all ∙ ap (λ b. when b (drop (length p) s)) (shorter s p h))

pub strip-there : (p s front rest : List ℕ) → front ≡ take (length p) s → rest ≡ drop (length p) s → true ≡ bytes_eq front p → Some rest ≡ stripped p s
strip-there p s front rest f r t = ap Some r ∙ ap (λ b. when b (drop (length p) s)) (t ∙ ap (λ (x : List ℕ). bytes_eq x p) f)

pub strip-not : (p s front : List ℕ) → front ≡ take (length p) s → false ≡ bytes_eq front p → None ≡ stripped p s
strip-not p s front f t = ap (λ b. when b (drop (length p) s)) (t ∙ ap (λ (x : List ℕ). bytes_eq x p) f)
