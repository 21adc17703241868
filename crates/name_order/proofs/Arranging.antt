-- The first rows in the order of their names: their names rise, and each of them stands there once.
use Rattle.std.proofs.Common.{◌≡◌, ℕ, zero, suc, ◌<◌, ◌≤◌, true, false, eqb, ltb, List, [], ◌∷◌, ◌++◌, length, get_or, sym, refl, ap, ◌∙◌, subst, ⊎_elim, add-one, arith}
use Rattle.std.proofs.lemmas.List.{length_push}
use Rattle.std.proofs.lemmas.Bool.{or_cases, eqb-true, ltb-true, lt-ltb, le-ltb, cases_Bool, cases_lt}
use Rattle.rows.specs.Numbers.{all_of, member}
use Rattle.name_order.specs.Orders.{named, insert_by, arranged, ordered, Apart, ByName}
use Rattle.name_order.proofs.Splitting.{all-at, rising, rising-at}
use Rattle.name_order.proofs.Inserting.{all_weaker, all_insert, length-insert, member-old, member-new, rising-insert, insert-same}
use Rattle.name_order.proofs.Numbering.{named-old}

-- a member has a place
pub placed : (r : ℕ) (xs : List ℕ) → member r xs ≡ true → (j : ℕ) × (j < length xs) × (get_or xs j 0 ≡ r)
placed r [] e = let z : ◌≡◌ {A = ℕ} 0 1 = cc in let n : ⊥ = omega arith in absurd n
placed r (x ∷ xs) e =
    ⊎_elim (λ (h : eqb r x ≡ true). (0, omega arith, sym (eqb-true r x h)))
    (λ (h : member r xs ≡ true). let p = placed r xs h in (suc p.0, omega (arith, p.1), p.2)) (or_cases (eqb r x) (member r xs) e)

module _ (names : List (List ℕ)) where
  pub arranged-below : (n : ℕ) → all_of (λ r. ltb r n) (arranged names n) ≡ true
  arranged-below zero = refl
  arranged-below (suc n) =
      all_insert (named names) n (λ r. ltb r (suc n)) (arranged names n) (lt-ltb n (suc n) (omega arith))
      (all_weaker (λ r. ltb r n) (λ r. ltb r (suc n)) (λ r h. let l = ltb-true r n h in lt-ltb r (suc n) (omega arith)) (arranged names n) (arranged-below n))

  pub arranged-has : (n r : ℕ) → r < n → member r (arranged names n) ≡ true
  arranged-has zero r lt = let z : ⊥ = omega arith in absurd z
  arranged-has (suc n) r lt =
      let xs = arranged names n in
      ⊎_elim (λ (l : r < n). member-old (named names) n r xs (arranged-has n r l))
      (λ (l : n ≤ r). let same : n ≡ r = omega arith in subst (λ k. member k (insert_by (named names) n xs) ≡ true) same (member-new (named names) n xs)) (cases_lt r n)

  pub arranged-long : (n : ℕ) → length (arranged names n) ≡ n
  arranged-long zero = refl
  arranged-long (suc n) = length-insert (named names) n (arranged names n) ∙ ap suc (arranged-long n)

  pub arranged-rises : Apart names → (n : ℕ) → n ≤ length names → rising (named names) (arranged names n) ≡ true
  arranged-rises apart zero le = refl
  arranged-rises apart (suc n) le =
      rising-insert (named names) n n (arranged names n) (λ q lt e. let same : q ≡ n = apart q n (omega arith) (omega arith) e in omega arith) (arranged-below n) (arranged-rises apart n (omega arith))

  outside : (r : ℕ) → length names ≤ r → member r (ordered names) ≡ false
  outside r le =
      ⊎_elim
      (λ (h : member r (ordered names) ≡ true).
      let p = placed r (ordered names) h in
      let below = ltb-true _ _ (all-at (λ q. ltb q (length names)) (ordered names) 0 (arranged-below (length names)) p.0 p.1) in
      let z : ⊥ = omega (arith, below, p.2) in absurd z)
      (λ (h : member r (ordered names) ≡ false). h) (cases_Bool (member r (ordered names)))

  pub by_name : Apart names → ByName names (ordered names)
  by_name apart =
      record {
        rises = rising-at (named names) (ordered names) 0 (arranged-rises apart (length names) (omega arith));
        complete = λ r. ⊎_elim (λ (l : r < length names). arranged-has (length names) r l ∙ sym (lt-ltb r (length names) l)) (λ (l : length names ≤ r). outside r l ∙ sym (le-ltb r (length names) l)) (cases_lt r (length names));
        once = arranged-long (length names);
      }

-- the same order by names that agree
pub arranged-same : (ks ls : List (List ℕ)) (n : ℕ) → ((p : ℕ) → p < n → named ks p ≡ named ls p) → arranged ks n ≡ arranged ls n
arranged-same ks ls zero h = refl
arranged-same ks ls (suc n) h =
    insert-same (named ks) (named ls) n n (arranged ks n) (h n (omega arith)) (λ q l. h q (omega arith)) (arranged-below ks n)
    ∙ ap (insert_by (named ls) n) (arranged-same ks ls n (λ p l. h p (omega arith)))

-- one name more: the order is as it was, and the new row takes its place
pub ordered-push : (names : List (List ℕ)) (x : List ℕ) → ordered (names ++ x ∷ []) ≡ insert_by (named (names ++ x ∷ [])) (length names) (ordered names)
ordered-push names x =
    let more = names ++ x ∷ [] in
    ap (arranged more) (length_push names x ∙ add-one (length names))
    ∙ ap (insert_by (named more) (length names)) (arranged-same more names (length names) (named-old names x))
