-- Bytes in base sixteen.
use Rattle.std.proofs.Common.{◌≡◌, ℕ, zero, suc, ◌+◌, ◌*◌, ◌/◌, ◌%◌, ◌<◌, ◌≤◌, false, eqb, List, [], ◌∷◌, ◌++◌, length, get_or, drop, Some, None, Option, sym, refl, ap, ◌∙◌, arith}
use Rattle.std.specs.Option.{option_map}
use Rattle.std.specs.Simd.{first_chunks}
use Rattle.std.proofs.lemmas.List.{append_assoc, append-nil, at_drop_more, at_drop_all}
use Rattle.std.proofs.lemmas.Bool.{eqb-false}
use Rattle.packed_layout.specs.Codec.{bind}
use Rattle.script.specs.Words.{hex_byte, hex_of}

-- the bytes that pairs of digits stand for
abbrev pub all_pairs : List (List ℕ) → Option (List ℕ)
all_pairs [] = Some []
all_pairs (p ∷ more) = bind (hex_byte (get_or p 0 0) (get_or p 1 0)) (λ b. bind (all_pairs more) (λ bs. Some (b ∷ bs)))

even_is : (k : ℕ) (s : List ℕ) → length s ≡ k * 2 → all_pairs (first_chunks 2 k s) ≡ hex_of s
even_is zero [] e = refl
even_is zero (x ∷ s) e = absurd (omega arith)
even_is (suc k) [] e = absurd (omega arith)
even_is (suc k) (x ∷ []) e = absurd (omega arith)
even_is (suc k) (x ∷ y ∷ s) e = ap (λ o. bind (hex_byte x y) (λ b. bind o (λ bs. Some (b ∷ bs)))) (even_is k s (omega arith))

odd_by : (k : ℕ) (s : List ℕ) → length s ≡ k * 2 + 1 → None ≡ hex_of s
odd_by k [] e = absurd (omega arith)
odd_by k (x ∷ []) e = refl
odd_by zero (x ∷ y ∷ s) e = absurd (omega arith)
odd_by (suc k) (x ∷ y ∷ s) e = go (hex_byte x y) ∙ ap (λ o. bind (hex_byte x y) (λ b. bind o (λ bs. Some (b ∷ bs)))) (odd_by k s (omega arith))
  where
    go : (o : Option ℕ) → None ≡ bind o (λ b. bind None (λ bs. Some (b ∷ bs)))
    go None = refl
    go (Some b) = refl

pub odd_is : (s : List ℕ) (n : ℕ) → n ≡ length s % 2 → false ≡ eqb n 0 → None ≡ hex_of s
odd_is s n e h = let some : n ≡ 0 → ⊥ = eqb-false n 0 (sym h) in odd_by (length s / 2) s (omega arith)

-- what is left after some bytes were read, with those bytes in front
abbrev pub prefixed : List ℕ → Option (List ℕ) → Option (List ℕ)
prefixed xs o = option_map (λ ys. xs ++ ys) o

prefixed-nil : (o : Option (List ℕ)) → prefixed [] o ≡ o
prefixed-nil None = refl
prefixed-nil (Some ys) = refl

one_more : (xs : List ℕ) (b : ℕ) (o : Option (List ℕ)) → prefixed (xs ++ b ∷ []) o ≡ prefixed xs (bind o (λ bs. Some (b ∷ bs)))
one_more xs b None = refl
one_more xs b (Some ys) = ap Some (append_assoc xs (b ∷ []) ys)

-- two digits more, of a word itself
pub two_digits : (xs s : List ℕ) (b : ℕ) (all : Option (List ℕ)) → 2 ≤ length s → Some b ≡ hex_byte (get_or s 0 0) (get_or s 1 0) → prefixed xs (hex_of s) ≡ all → prefixed (xs ++ b ∷ []) (hex_of (drop 2 s)) ≡ all
two_digits xs [] b all h p inv = absurd (omega arith)
two_digits xs (x ∷ []) b all h p inv = absurd (omega arith)
two_digits xs (x ∷ y ∷ t) b all h p inv = one_more xs b (hex_of t) ∙ ap (λ (o : Option ℕ). prefixed xs (bind o (λ z. bind (hex_of t) (λ more. Some (z ∷ more))))) p ∙ inv

pub pairs-start : (s xs : List ℕ) (ps : List (List ℕ)) → xs ≡ [] → ps ≡ first_chunks 2 (length s / 2) s → length s % 2 ≡ 0 → prefixed xs (all_pairs ps) ≡ hex_of s
pairs-start s xs ps e f even = ap (λ (z : List ℕ). prefixed z (all_pairs ps)) e ∙ prefixed-nil (all_pairs ps) ∙ ap all_pairs f ∙ even_is (length s / 2) s (omega arith)

module _ (xs : List ℕ) (ps : List (List ℕ)) (i : ℕ) (d : List ℕ) (all : Option (List ℕ)) (inv : prefixed xs (all_pairs (drop i ps)) ≡ all) where
  -- what the pair at i gives is put behind the bytes so far
  step : i < length ps → (o : Option ℕ) → o ≡ hex_byte (get_or (get_or ps i d) 0 0) (get_or (get_or ps i d) 1 0) → prefixed xs (bind o (λ b. bind (all_pairs (drop (i + 1) ps)) (λ bs. Some (b ∷ bs)))) ≡ all
  step l o e = ap (λ (z : Option ℕ). prefixed xs (bind z (λ b. bind (all_pairs (drop (i + 1) ps)) (λ bs. Some (b ∷ bs))))) e ∙ ap (prefixed xs) (sym (at_drop_more all_pairs ps i d l)) ∙ inv

  pub pairs-turn : (xs' : List ℕ) (b : ℕ) → i < length ps → Some b ≡ hex_byte (get_or (get_or ps i d) 0 0) (get_or (get_or ps i d) 1 0) → xs' ≡ xs ++ b ∷ [] → prefixed xs' (all_pairs (drop (i + 1) ps)) ≡ all
  pairs-turn xs' b l e more = ap (λ (z : List ℕ). prefixed z (all_pairs (drop (i + 1) ps))) more ∙ one_more xs b (all_pairs (drop (i + 1) ps)) ∙ step l (Some b) e

  pub pairs-stop : i < length ps → None ≡ hex_byte (get_or (get_or ps i d) 0 0) (get_or (get_or ps i d) 1 0) → None ≡ all
  pairs-stop l e = step l None e

  pub pairs-end : length ps ≤ i → Some xs ≡ all
  pairs-end l = ap Some (sym (append-nil xs)) ∙ ap (prefixed xs) (sym (at_drop_all all_pairs ps i l)) ∙ inv
