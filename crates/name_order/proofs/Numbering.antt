-- What the number of the first row with a name tells.
use Rattle.std.proofs.Common.{◌≡◌, ℕ, zero, suc, ◌+◌, ◌<◌, ◌≤◌, Bool, true, false, cond, ◌||◌, List, [], ◌∷◌, ◌++◌, length, is_some, Some, None, Option, sym, refl, ap, ◌∙◌, subst, ⊎_elim, arith}
use Rattle.std.specs.Option.{option_map}
use Rattle.std.proofs.lemmas.Slice.Eq.{bytes_eq-Decides}
use Rattle.std.proofs.lemmas.List.{length_push, get_or_push, get_or_append_left}
use Rattle.std.proofs.lemmas.Bool.{cond-true, cond-false, cases_Bool, cases_lt}
use Rattle.rows.specs.Numbers.{any}
use Rattle.std.specs.Str.{bytes_eq}
use Rattle.name_order.specs.Orders.{named, number_of, Apart}

-- another name is passed over
passed : (name n : List ℕ) (o : Option ℕ) → (n ≡ name → ⊥) → cond (bytes_eq n name) (Some 0) o ≡ o
passed name n o apart =
    ⊎_elim (λ (h : bytes_eq n name ≡ true). let z : ⊥ = apart ((bytes_eq-Decides n name).0 h) in absurd z) (λ (h : bytes_eq n name ≡ false). cond-false _ _ _ h) (cases_Bool (bytes_eq n name))

-- a row that has a name, and none before it has
pub number-some : (name : List ℕ) (names : List (List ℕ)) (r : ℕ) → r < length names → named names r ≡ name → ((p : ℕ) → p < r → named names p ≡ name → ⊥) → Some r ≡ number_of name names
number-some name [] r lt e f = let z : ⊥ = omega arith in absurd z
number-some name (n ∷ ns) zero lt e f = sym (cond-true _ _ _ ((bytes_eq-Decides n name).1 e))
number-some name (n ∷ ns) (suc r) lt e f =
    ap (option_map suc) (number-some name ns r (omega arith) e (λ p h. f (suc p) (omega arith))) ∙ sym (passed name n _ (f 0 (omega arith)))

-- no row has the name
pub number-none : (name : List ℕ) (names : List (List ℕ)) → ((p : ℕ) → p < length names → named names p ≡ name → ⊥) → None ≡ number_of name names
number-none name [] f = refl
number-none name (n ∷ ns) f =
    ap (option_map suc) (number-none name ns (λ p h. f (suc p) (omega arith))) ∙ sym (passed name n _ (f 0 (omega arith)))

-- there is a number exactly if a row has the name
mapped-some : (o : Option ℕ) → is_some (option_map suc o) ≡ is_some o
mapped-some (Some k) = refl
mapped-some None = refl

pub number-tells : (name : List ℕ) (names : List (List ℕ)) → is_some (number_of name names) ≡ any (λ n. bytes_eq n name) names
number-tells name [] = refl
number-tells name (n ∷ ns) =
    elim (bytes_eq n name) as (λ b. is_some (cond b (Some 0) (option_map suc (number_of name ns))) ≡ (b || any (λ m. bytes_eq m name) ns))
    [ true ↦ refl | false ↦ mapped-some (number_of name ns) ∙ number-tells name ns ]

-- where there is no number, no row has the name
neither : (b : Bool) (o : Option ℕ) → cond b (Some 0) (option_map suc o) ≡ None → (b ≡ false) × (o ≡ None)
neither true o e = (cc, cc)
neither false (Some k) e = (refl, cc)
neither false None e = (refl, refl)

pub none_has : (name : List ℕ) (names : List (List ℕ)) → number_of name names ≡ None → (p : ℕ) → p < length names → named names p ≡ name → ⊥
none_has name [] e p lt same = omega arith
none_has name (n ∷ ns) e zero lt same =
    let this = (neither (bytes_eq n name) (number_of name ns) e).0 in
    let that = (bytes_eq-Decides n name).1 same in
    let z : ◌≡◌ {A = ℕ} 0 1 = cc in omega arith
none_has name (n ∷ ns) e (suc p) lt same = none_has name ns (neither (bytes_eq n name) (number_of name ns) e).1 p (omega arith) same

pub none_is : (o : Option ℕ) → is_some o ≡ false → o ≡ None
none_is (Some k) e = cc
none_is None e = refl

pub apart_none : Apart []
apart_none p q pl ql e = omega arith

-- names stay apart when a new one follows them
module _ (names : List (List ℕ)) (x : List ℕ) where
  pub named-old : (p : ℕ) → p < length names → named (names ++ x ∷ []) p ≡ named names p
  named-old p lt = get_or_append_left names (x ∷ []) [] p lt

  pub named_new : named (names ++ x ∷ []) (length names) ≡ x
  named_new = get_or_push names x [] (length names) refl

  pub apart-push : Apart names → number_of x names ≡ None → Apart (names ++ x ∷ [])
  apart-push apart new p q pl ql e =
      let long : length (names ++ x ∷ []) ≡ length names + 1 = length_push names x in
      let last : (k : ℕ) → k < length (names ++ x ∷ []) → length names ≤ k → named (names ++ x ∷ []) k ≡ x = λ k h l. let at : length names ≡ k = omega arith in subst (λ i. named (names ++ x ∷ []) i ≡ x) at named_new in
      ⊎_elim
      (λ (l : p < length names). ⊎_elim (λ (m : q < length names). apart p q l m (sym (named-old p l) ∙ e ∙ named-old q m)) (λ (m : length names ≤ q). let z : ⊥ = none_has x names new p l (sym (named-old p l) ∙ e ∙ last q ql m) in absurd z) (cases_lt q (length names)))
      (λ (l : length names ≤ p). ⊎_elim (λ (m : q < length names). let z : ⊥ = none_has x names new q m (sym (named-old q m) ∙ sym e ∙ last p pl l) in absurd z) (λ (m : length names ≤ q). omega arith) (cases_lt q (length names)))
      (cases_lt p (length names))
