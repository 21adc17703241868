-- Rows whose names rise, and the place of a name among them.
use Rattle.std.proofs.Common.{◌≡◌, ℕ, zero, suc, ◌+◌, ◌<◌, ◌≤◌, Bool, true, ◌&&◌, List, [], ◌∷◌, length, get_or, Less, Greater, sym, refl, ap, ◌∙◌, arith}
use Rattle.std.proofs.lemmas.Bool.{and_parts, cond-true, cond-false}
use Rattle.std.proofs.lemmas.List.{get_or_read}
use Rattle.std.specs.List.{insert}
use Rattle.std.specs.List.Sorted.{IsSortedBy, IsPartitionPoint}
use Rattle.std.specs.Ordering.{is_lt}
use Rattle.rows.specs.Numbers.{all_of}
use Rattle.name_order.specs.Orders.{compared, before?, insert_by}
use Rattle.name_order.proofs.ByteOrder.{before-asym, greater-before}

pub all-at : {A : Type 0} (p : A → Bool) (xs : List A) (d : A) → all_of p xs ≡ true → (k : ℕ) → k < length xs → p (get_or xs k d) ≡ true
all-at p [] d w k lt = let z : ⊥ = omega arith in absurd z
all-at p (x ∷ xs) d w zero lt = (and_parts (p x) _ w).0
all-at p (x ∷ xs) d w (suc k) lt = all-at p xs d (and_parts (p x) _ w).1 k (omega arith)

module _ (key : ℕ → List ℕ) where
  -- each row is before all that follow it
  abbrev pub rising : List ℕ → Bool
  rising [] = true
  rising (q ∷ qs) = all_of (λ p. before? (key q) (key p)) qs && rising qs

  pub rising-at : (xs : List ℕ) (d : ℕ) → rising xs ≡ true → (i j : ℕ) → i < j → j < length xs → before? (key (get_or xs i d)) (key (get_or xs j d)) ≡ true
  rising-at [] d w i j lt le = let z : ⊥ = omega arith in absurd z
  rising-at (x ∷ xs) d w zero zero lt le = let z : ⊥ = omega arith in absurd z
  rising-at (x ∷ xs) d w zero (suc j) lt le = all-at (λ p. before? (key x) (key p)) xs d (and_parts (all_of (λ p. before? (key x) (key p)) xs) _ w).0 j (omega arith)
  rising-at (x ∷ xs) d w (suc i) zero lt le = let z : ⊥ = omega arith in absurd z
  rising-at (x ∷ xs) d w (suc i) (suc j) lt le = rising-at xs d (and_parts (all_of (λ p. before? (key x) (key p)) xs) _ w).1 i j (omega arith) (omega arith)

  -- as the library says it of a list that is sorted
  pub sorted : (xs : List ℕ) → rising xs ≡ true → IsSortedBy (λ q p. before? (key q) (key p)) xs
  sorted xs w k d low lt = before-asym (key (get_or xs k d)) (key (get_or xs (k + 1) d)) (rising-at xs d w k (k + 1) (omega arith) lt)

  -- the rows before a place have names before a name, and those from there on have names after it
  abbrev pub Parted : List ℕ → List ℕ → ℕ → Type 0
  Parted name = IsPartitionPoint (λ q. compared (key q) name ≡ Less) (λ q. compared (key q) name ≡ Greater)

  -- there a row is inserted in its place
  pub inserted-is : (r : ℕ) (xs : List ℕ) (i : ℕ) → i ≤ length xs → Parted (key r) xs i → insert xs i r ≡ insert_by key r xs
  inserted-is r [] zero le s = refl
  inserted-is r [] (suc i) le s = let z : ⊥ = omega arith in absurd z
  inserted-is r (q ∷ qs) zero le s = sym (cond-true _ _ _ (greater-before (key q) (key r) (s.1 0 q (omega arith) (omega arith))))
  inserted-is r (q ∷ qs) (suc i) le s =
      ap (λ ys. q ∷ ys) (inserted-is r qs i (omega arith) ((λ k d l h. s.0 (suc k) d (omega arith) (omega arith)), (λ k d l h. s.1 (suc k) d (omega arith) (omega arith))))
      ∙ sym (cond-false _ _ _ (before-asym (key q) (key r) (ap is_lt (s.0 0 q (omega arith) (omega arith)))))

  -- the name that was read at a place
  pub read-at : (xs : List ℕ) (mid row : ℕ) (here : List ℕ) → row ≡ get_or xs mid row → mid < length xs → here ≡ key row → here ≡ key (get_or xs mid 0)
  read-at xs mid row here e lt h = h ∙ ap key (get_or_read xs mid row lt e 0)
