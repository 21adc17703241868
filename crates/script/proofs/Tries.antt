-- A `try_fold` whose closure gives an `Option`: the first `None` is the answer, else the last total.
use Rattle.std.proofs.Common.{◌≡◌, suc, List, [], ◌∷◌, ◌++◌, length, take, drop, map, Some, None, Option, sym, refl, ap, subst, ◌∙◌, drop-cons}
use Rattle.std.specs.Iterator.{TryFoldTurn, TryFoldsItems}
use Rattle.std.specs.Fn.{Called}
use Rattle.std.specs.ControlFlow.{continue_value}
use Rattle.std.specs.List.{FoldsTo}
use denote.Param.Members.{Mut}
use Rattle.std.proofs.lemmas.Iterator.{YieldsList}
use Rattle.std.proofs.lemmas.Iterator.Consumers.{YieldsList-so_far, YieldsList-turn, YieldsList-end}
use Rattle.std.proofs.lemmas.List.{take-append-drop, append-nil}
use Rattle.packed_layout.specs.Codec.{bind}

-- `after a xs` is what comes of the total a and the items xs, where h takes one item more
module _ (E : Type 0) {A B C F : Type 0} (v : A → B) (g : Mut F (C × (A × Unit {0})) (Option C)) (h : C → B → Option C) (after : C → List B → Option C) (f : F)
    (none : (a : C) → after a [] ≡ Some a) (more : (a : C) (x : B) (xs : List B) → after a (x ∷ xs) ≡ bind (h a x) (λ b. after b xs))
    (k : (a : C) (x : A) (r : Option C) (q : F) → Called g f (a, (x, tt)) r q → (q ≡ f) × (r ≡ h a (v x))) where
  told : (a : C) (x : A) (r : Option C) (p q : F) → p ≡ f → Called g p (a, (x, tt)) r q → (q ≡ f) × (r ≡ h a (v x))
  told a x r p q e c = k a x r q (subst (λ w. Called g w (a, (x, tt)) r q) e c)

  turns : (xs : List A) (rest : List B) (p q : F × C) → p.0 ≡ f → FoldsTo {P = F × C} (TryFoldTurn g (λ s r. s ≡ continue_value {B = E} r)) p xs q → (q.0 ≡ f) × (after p.1 (map v xs ++ rest) ≡ after q.1 rest)
  turns [] rest p q e c = (ap (λ w. w.0) (sym c) ∙ e, ap (λ w. after w.1 rest) c)
  turns (x ∷ xs) rest p q e c =
      let m = told p.1 x c.1.0 p.0 c.0.0 e c.1.1 in
      let t = turns xs rest c.0 q m.0 c.2 in
      (t.0, more p.1 (v x) (map v xs ++ rest) ∙ ap (λ o. bind o (λ b. after b (map v xs ++ rest))) (sym m.1 ∙ c.1.2) ∙ t.1)

  module _ {S : Type 0} {steps : S → Option A → S → Type 0} {s : S} {all : List B} (u : S) (init : C) (e : YieldsList steps v s all) where
    pub tried : (r : Option C) → TryFoldsItems steps g (λ s r. s ≡ continue_value {B = E} r) (λ _ r. r ≡ None) s f init r u → r ≡ after init all
    tried r (xs, None, j, a, (t, y, last), c, is) =
        let all_of : map v xs ≡ all = (YieldsList-end e xs t y None u refl last).0 in
        let way = (turns xs [] (f, init) (j, a) refl c).1 in
        is ∙ sym (none a) ∙ sym way ∙ ap (after init) (append-nil (map v xs) ∙ all_of)
    tried r (xs, Some x, j, a, (t, y, last), c, (w, q, b, call, off, is)) =
        let turn = YieldsList-turn e xs t y (Some x) u x refl last in
        let front : map v xs ≡ take (length xs) all = YieldsList-so_far e xs t y in
        let back : drop (length xs) all ≡ v x ∷ drop (suc (length xs)) all = drop-cons all (length xs) (v x) turn.0 ∙ ap (λ z. z ∷ drop (suc (length xs)) all) (sym turn.1) in
        let way = turns xs (drop (length xs) all) (f, init) (j, a) refl c in
        let here = told a x w j q way.0 call in
        let whole : map v xs ++ drop (length xs) all ≡ all = ap (λ z. z ++ drop (length xs) all) front ∙ take-append-drop (length xs) all in
        let broken : after a (drop (length xs) all) ≡ None = ap (after a) back ∙ more a (v x) (drop (suc (length xs)) all) ∙ ap (λ o. bind o (λ b. after b (drop (suc (length xs)) all))) (sym here.1 ∙ off) in
        is ∙ sym broken ∙ sym way.1 ∙ ap (after init) whole
