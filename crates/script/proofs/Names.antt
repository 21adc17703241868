-- Words that a `match` tells apart.
use Rattle.std.proofs.Common.{◌≡◌, ℕ, false, List, codes}
use Rattle.std.specs.Str.{bytes_eq}
use Rattle.std.proofs.lemmas.Slice.Eq.{bytes_eq-Decides}
use Rattle.std.proofs.lemmas.Bool.{false_from_ne_true}
use Rattle.script.specs.Lines.{mark_of, setting_of}

other : (s p : List ℕ) → (s ≡ p → ⊥) → bytes_eq s p ≡ false
other s p h = false_from_ne_true (bytes_eq s p) (λ e. h ((bytes_eq-Decides s p).0 e))

pub none-set : (s : List ℕ) → (s ≡ codes "external" → ⊥) → (s ≡ codes "self" → ⊥) → (s ≡ codes "lazy" → ⊥) → (s ≡ codes "entry" → ⊥) → (s ≡ codes "esm" → ⊥) → (s ≡ codes "cjs" → ⊥) → mark_of s ≡ setting_of s
none-set s a b c d e f = simp (other s (codes "external") a, other s (codes "self") b, other s (codes "lazy") c, other s (codes "entry") d, other s (codes "esm") e, other s (codes "cjs") f)
