-- The laws of byte order, from the library's laws of its comparison.
use Rattle.std.proofs.Common.{◌≡◌, ℕ, true, false, List, Ordering, Less, Equal, Greater, refl, ap, ◌∙◌}
use Rattle.std.specs.Ordering.{is_lt, ordering_reverse}
use Rattle.std.specs.FinMap.{nat_cmp-IsAntisymmetric, slice_cmp-IsAntisymmetric}
use Rattle.std.proofs.lemmas.Cmp.{nat_list_cmp_total}
use Rattle.name_order.specs.Orders.{before?, compared}

pub less : (o : Ordering) → is_lt o ≡ true → o ≡ Less
less Less e = refl
less Equal e = cc
less Greater e = cc

-- the other way round
pub turned : (a b : List ℕ) (o : Ordering) → compared a b ≡ o → compared b a ≡ ordering_reverse o
turned a b o e = nat_list_cmp_total.antisymm b a ∙ ap ordering_reverse e

pub before-asym : (a b : List ℕ) → before? a b ≡ true → before? b a ≡ false
before-asym a b e = ap is_lt (turned a b Less (less _ e))

pub before-trans : (a b d : List ℕ) → before? a b ≡ true → before? b d ≡ true → before? a d ≡ true
before-trans a b d e f = ap is_lt (nat_list_cmp_total.trans a b d (less _ e) (less _ f))

pub greater-before : (a b : List ℕ) → compared a b ≡ Greater → before? b a ≡ true
greater-before a b e = ap is_lt (turned a b Greater e)

pub when-equal : (a b : List ℕ) → compared a b ≡ Equal → a ≡ b
when-equal = slice_cmp-IsAntisymmetric nat_cmp-IsAntisymmetric

-- of two names that differ one is before the other
either-before : (a b : List ℕ) (o : Ordering) → compared a b ≡ o → (a ≡ b → ⊥) → before? b a ≡ false → before? a b ≡ true
either-before a b Less e apart nor = ap is_lt e
either-before a b Equal e apart nor = absurd (apart (when-equal a b e))
either-before a b Greater e apart nor = let yes = greater-before a b e in cc

pub before-total : (a b : List ℕ) → (a ≡ b → ⊥) → before? b a ≡ false → before? a b ≡ true
before-total a b = either-before a b (compared a b) refl
