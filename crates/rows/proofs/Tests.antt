-- Tests that hold or do not, and lists of numbers as sets.
use Rattle.std.proofs.Common.{◌≡◌, ℕ, Bool, true, false, cond, not, ◌&&◌, ◌||◌, T, eqb, ◌⊎◌, List, [], ◌∷◌, Some, None, Option, sym, refl, subst, inl, inr, ⊎_elim, arith, eqb→eq}
use lib.Dec.{eqb_refl}
use Rattle.rows.specs.Numbers.{any, member}

pub both : (a b : Bool) → T (a && b) → T a × T b
both true b t = (tt, t)
both false b t = absurd t

pub from-both : (a b : Bool) → T a → T b → T (a && b)
from-both true b s t = t
from-both false b s t = absurd s

pub either : (a b : Bool) → T (a || b) → T a ⊎ T b
either true b t = inl tt
either false b t = inr t

pub one : (a b : Bool) → T a → T (a || b)
one true b t = tt
one false b t = absurd t

pub other : (a b : Bool) → T b → T (a || b)
other true b t = tt
other false b t = t

pub neither : (a b : Bool) → T (not a) → T (not b) → T (not (a || b))
neither true b s t = absurd s
neither false b s t = t

pub both-not : (a b : Bool) → T (not (a || b)) → T (not a) × T (not b)
both-not true b t = absurd t
both-not false b t = (tt, t)

pub indeed : (a : Bool) → T (not (not a)) → T a
indeed true t = tt
indeed false t = t

-- a test holds or does not
pub or-not : (a : Bool) → T a ⊎ T (not a)
or-not true = inl tt
or-not false = inr tt

pub is_true : (a : Bool) → T a → a ≡ true
is_true true t = refl
is_true false t = absurd t

pub is_false : (a : Bool) → T (not a) → a ≡ false
is_false true t = absurd t
is_false false t = refl

pub from-true : {a : Bool} → a ≡ true → T a
from-true e = subst T (sym e) tt

pub from_false : {a : Bool} → a ≡ false → T (not a)
from_false e = subst (λ b. T (not b)) (sym e) tt

pub differ : {P : Type 0} → ◌≡◌ {A = ℕ} 0 1 → P
differ e = let never : ⊥ = omega arith in absurd never

-- a chain of tests that found nothing
pub passed : {A : Type 0} (b : Bool) (x : A) (o : Option A) → cond b (Some x) o ≡ None → T (not b) × (o ≡ None)
passed true x o e = let z : ◌≡◌ {A = ℕ} 0 1 = cc in differ z
passed false x o e = (tt, e)

-- a test that some item passes
pub any_at : (p : ℕ → Bool) (xs : List ℕ) (q : ℕ) → T (member q xs) → T (p q) → T (any p xs)
any_at p [] q m t = absurd m
any_at p (x ∷ xs) q m t = ⊎_elim (λ e. one (p x) _ (subst (λ z. T (p z)) (eqb→eq q x e) t)) (λ n. other (p x) _ (any_at p xs q n t)) (either (eqb q x) (member q xs) m)

pub at-any : (p : ℕ → Bool) (xs : List ℕ) → T (any p xs) → (q : ℕ) × T (member q xs) × T (p q)
at-any p [] t = absurd t
at-any p (x ∷ xs) t = elim (either (p x) (any p xs) t) [ inl h ↦ (x, one (eqb x x) _ (eqb_refl x), h) | inr h ↦ (let r = at-any p xs h in (r.0, other (eqb r.0 x) _ r.1, r.2)) ]
