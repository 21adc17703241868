-- What a search tells of a name.
use Rattle.std.proofs.Common.{◌≡◌, ℕ, ◌<◌, ◌≤◌, true, ltb, List, [], ◌∷◌, ◌++◌, length, get_or, None, Ok, Err, Result, Equal, sym, refl, ap, ◌∙◌, subst, ⊎_elim, arith}
use Rattle.std.specs.List.Sorted.{IsSearchInRange, IsBinarySearchResult}
use Rattle.std.proofs.lemmas.Bool.{ltb-true, cases_lt}
use Rattle.std.proofs.lemmas.Cmp.{nat_list_cmp_total, tied_itself}
use Rattle.std.proofs.lemmas.List.Sorted.{searchable_from_sorted}
use Rattle.rows.specs.Numbers.{all_of, member}
use Rattle.name_order.specs.Orders.{compared, named, insert_by, ordered, number_of, IsOrder, Located}
use Rattle.name_order.proofs.ByteOrder.{when-equal}
use Rattle.name_order.proofs.Splitting.{all-at, rising, sorted, Parted, inserted-is}
use Rattle.name_order.proofs.Numbering.{number-some, number-none, named-old, named_new, apart_none, apart-push}
use Rattle.name_order.proofs.Arranging.{placed, arranged-below, arranged-has, arranged-long, arranged-rises, ordered-push}

module _ (names : List (List ℕ)) (xs : List ℕ) (o : IsOrder names xs) where
  pub order-long : length xs ≡ length names
  order-long = ap length o.0 ∙ arranged-long names (length names)

  pub order-rises : rising (named names) xs ≡ true
  order-rises = ap (rising (named names)) o.0 ∙ arranged-rises names o.1 (length names) (omega arith)

  inside : (i d : ℕ) → i < length xs → get_or xs i d < length names
  inside i d lt = ltb-true _ _ (all-at (λ q. ltb q (length names)) xs d (subst (λ (ys : List ℕ). all_of (λ q. ltb q (length names)) ys ≡ true) (sym o.0) (arranged-below names (length names))) i lt)

module _ (names : List (List ℕ)) (name xs : List ℕ) (o : IsOrder names xs) where
  pub found : (i : ℕ) → i < length xs → named names (get_or xs i 0) ≡ name → Located names name xs (Ok i)
  found i lt e =
      number-some name names (get_or xs i 0) (inside names xs o i 0 lt) e
      (λ p h same. let low = inside names xs o i 0 lt in let one : p ≡ get_or xs i 0 = o.1 p (get_or xs i 0) (omega arith) low (same ∙ sym e) in omega arith)

  nowhere : (i : ℕ) → Parted (named names) name xs i → (p : ℕ) → p < length names → named names p ≡ name → ⊥
  nowhere i s p lt same =
      let q = placed p xs (subst (λ (ys : List ℕ). member p ys ≡ true) (sym o.0) (arranged-has names (length names) p lt)) in
      let here : compared (named names (get_or xs q.0 0)) name ≡ Equal = ap (λ n. compared n name) (ap (named names) q.2 ∙ same) ∙ tied_itself nat_list_cmp_total name in
      ⊎_elim (λ (l : q.0 < i). let no = s.0 q.0 0 (omega arith) l in cc) (λ (l : i ≤ q.0). let no = s.1 q.0 0 l q.1 in cc) (cases_lt q.0 i)

  pub missing : (i : ℕ) → i ≤ length xs → Parted (named names) name xs i → Located names name xs (Err i)
  missing i le s =
      let more = names ++ name ∷ [] in let n = length names in
      let moved : (k d : ℕ) → k < length xs → compared (named names (get_or xs k d)) name ≡ compared (named more (get_or xs k d)) (named more n) = λ k d h.
      let old = named-old names name (get_or xs k d) (inside names xs o k d h) in
      sym (ap (λ m. compared m (named more n)) old ∙ ap (compared (named names (get_or xs k d))) (named_new names name)) in
      let parted : Parted (named more) (named more n) xs i = (λ k d h l. sym (moved k d (omega arith)) ∙ s.0 k d h l, λ k d h l. sym (moved k d l) ∙ s.1 k d h l) in (
        number-none name names (nowhere i s),
        inserted-is (named more) n xs i le parted ∙ ap (insert_by (named more) n) o.0 ∙ sym (ordered-push names name),
      )

  -- what the library's search tells of the name
  pub searched : (r : Result ℕ ℕ) → IsSearchInRange r (length xs) → IsBinarySearchResult (λ row. compared (named names row) name) xs r → Located names name xs r
  searched (Ok i) lt equal = found i lt (when-equal _ _ (equal 0))
  searched (Err i) le parted = missing i le (parted (searchable_from_sorted nat_list_cmp_total (named names) xs name (sorted (named names) xs (order-rises names xs o))))

-- an order of no rows, and one of a row more
pub order-none : IsOrder [] []
order-none = (refl, apart_none)

pub order-push : (names : List (List ℕ)) (name xs ys : List ℕ) → IsOrder names xs → number_of name names ≡ None → ys ≡ ordered (names ++ name ∷ []) → IsOrder (names ++ name ∷ []) ys
order-push names name xs ys o new e = (e, apart-push names name o.1 new)
