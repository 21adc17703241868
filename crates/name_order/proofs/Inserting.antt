-- What a row that takes its place adds, and what it leaves.
use Rattle.std.proofs.Common.{◌≡◌, ℕ, suc, ◌<◌, Bool, true, false, cond, eqb, ltb, List, [], ◌∷◌, length, refl, ap, ◌∙◌, ⊎_elim}
use Rattle.std.proofs.lemmas.Bool.{and_parts, and_from, or_cases, or_left, or_right, eq-eqb, ltb-true}
use Rattle.rows.specs.Numbers.{all_of, member}
use Rattle.name_order.specs.Orders.{before?, insert_by}
use Rattle.name_order.proofs.ByteOrder.{before-trans, before-total}
use Rattle.name_order.proofs.Splitting.{rising}

pub all_weaker : {A : Type 0} (p q : A → Bool) → ((x : A) → p x ≡ true → q x ≡ true) → (xs : List A) → all_of p xs ≡ true → all_of q xs ≡ true
all_weaker p q f [] w = refl
all_weaker p q f (x ∷ xs) w = let a = and_parts (p x) _ w in and_from _ _ (f x a.0) (all_weaker p q f xs a.1)

module _ (key : ℕ → List ℕ) (r : ℕ) where
  pub all_insert : (p : ℕ → Bool) (xs : List ℕ) → p r ≡ true → all_of p xs ≡ true → all_of p (insert_by key r xs) ≡ true
  all_insert p [] e w = and_from _ _ e refl
  all_insert p (q ∷ qs) e w =
      let a = and_parts (p q) _ w in
      elim (before? (key r) (key q)) as (λ b. all_of p (cond b (r ∷ q ∷ qs) (q ∷ insert_by key r qs)) ≡ true) [ true ↦ and_from _ _ e w | false ↦ and_from _ _ a.0 (all_insert p qs e a.1) ]

  pub length-insert : (xs : List ℕ) → length (insert_by key r xs) ≡ suc (length xs)
  length-insert [] = refl
  length-insert (q ∷ qs) =
      elim (before? (key r) (key q)) as (λ b. length (cond b (r ∷ q ∷ qs) (q ∷ insert_by key r qs)) ≡ suc (suc (length qs))) [ true ↦ refl | false ↦ ap suc (length-insert qs) ]

  pub member-old : (n : ℕ) (xs : List ℕ) → member n xs ≡ true → member n (insert_by key r xs) ≡ true
  member-old n [] e = or_right (eqb n r) _ e
  member-old n (q ∷ qs) e =
      elim (before? (key r) (key q)) as (λ b. member n (cond b (r ∷ q ∷ qs) (q ∷ insert_by key r qs)) ≡ true) [
        | true ↦ or_right (eqb n r) _ e
        | false ↦ ⊎_elim (λ (h : eqb n q ≡ true). or_left (eqb n q) _ h) (λ (h : member n qs ≡ true). or_right (eqb n q) _ (member-old n qs h)) (or_cases (eqb n q) (member n qs) e)
      ]

  pub member-new : (xs : List ℕ) → member r (insert_by key r xs) ≡ true
  member-new [] = or_left (eqb r r) _ (eq-eqb r r refl)
  member-new (q ∷ qs) =
      elim (before? (key r) (key q)) as (λ b. member r (cond b (r ∷ q ∷ qs) (q ∷ insert_by key r qs)) ≡ true)
      [ true ↦ or_left (eqb r r) _ (eq-eqb r r refl) | false ↦ or_right (eqb r q) _ (member-new qs) ]

  rise : (q : ℕ) (qs : List ℕ) (b : Bool) → before? (key r) (key q) ≡ b → (key q ≡ key r → ⊥) → rising key (q ∷ qs) ≡ true → rising key (insert_by key r qs) ≡ true
      → rising key (cond b (r ∷ q ∷ qs) (q ∷ insert_by key r qs)) ≡ true
  rise q qs true e apart w rec =
      let p = and_parts (all_of (λ x. before? (key q) (key x)) qs) _ w in
      and_from _ _ (and_from _ _ e (all_weaker (λ x. before? (key q) (key x)) (λ x. before? (key r) (key x)) (λ x h. before-trans (key r) (key q) (key x) e h) qs p.0)) w
  rise q qs false e apart w rec =
      let p = and_parts (all_of (λ x. before? (key q) (key x)) qs) _ w in
      and_from _ _ (all_insert (λ x. before? (key q) (key x)) qs (before-total (key q) (key r) apart e) p.0) rec

  -- the names still rise, if no row has the name
  pub rising-insert : (n : ℕ) (xs : List ℕ) → ((q : ℕ) → q < n → key q ≡ key r → ⊥) → all_of (λ q. ltb q n) xs ≡ true → rising key xs ≡ true → rising key (insert_by key r xs) ≡ true
  rising-insert n [] apart below w = refl
  rising-insert n (q ∷ qs) apart below w =
      let b = and_parts (ltb q n) _ below in
      rise q qs (before? (key r) (key q)) refl (apart q (ltb-true q n b.0)) w (rising-insert n qs apart b.1 (and_parts (all_of (λ x. before? (key q) (key x)) qs) _ w).1)

-- rows take the same places by names that agree
pub insert-same : (f g : ℕ → List ℕ) (r n : ℕ) (xs : List ℕ) → f r ≡ g r → ((q : ℕ) → q < n → f q ≡ g q) → all_of (λ q. ltb q n) xs ≡ true → insert_by f r xs ≡ insert_by g r xs
insert-same f g r n [] e h w = refl
insert-same f g r n (q ∷ qs) e h w =
    let a = and_parts (ltb q n) _ w in
    let same = h q (ltb-true q n a.0) in
    let rest = insert-same f g r n qs e h a.1 in
    ap (λ k. cond (before? k (f q)) (r ∷ q ∷ qs) (q ∷ insert_by f r qs)) e
    ∙ ap (λ k. cond (before? (g r) k) (r ∷ q ∷ qs) (q ∷ insert_by f r qs)) same
    ∙ ap (λ ys. cond (before? (g r) (g q)) (r ∷ q ∷ qs) (q ∷ ys)) rest
