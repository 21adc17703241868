-- A search by halves among rows whose names rise, which stops where it meets the name.
use Rattle.std.proofs.Common.{◌≡◌, ℕ, ◌+◌, ◌<◌, ◌≤◌, true, List, length, get_or, Less, Greater, Equal, Ok, Err, subst, ⊎_elim, arith}
use Rattle.std.proofs.lemmas.Bool.{cases_lt}
use Rattle.std.proofs.lemmas.Cmp.{nat_list_cmp_total}
use Rattle.std.proofs.lemmas.List.{get_or_read}
use Rattle.name_order.specs.Orders.{compared, named, IsOrder, Located}
use Rattle.name_order.proofs.ByteOrder.{less, turned, when-equal}
use Rattle.name_order.proofs.Splitting.{rising, rising-at}
use Rattle.name_order.proofs.Placing.{found, missing}

module _ (key : ℕ → List ℕ) (name xs : List ℕ) where
  -- the rows below low have names before the name, and those from high on have names after it
  abbrev pub Halved : ℕ → ℕ → Type 0
  Halved low high =
      ((k d : ℕ) → 0 ≤ k → k < low → compared (key (get_or xs k d)) name ≡ Less)
      × ((k d : ℕ) → high ≤ k → k < length xs → compared (key (get_or xs k d)) name ≡ Greater)

  pub halved-start : (n : ℕ) → n ≡ length xs → Halved 0 n
  halved-start n e = (λ k d l h. absurd (omega arith), λ k d l h. absurd (omega arith))

  -- the row at mid, where names rise: its name is compared with the name
  module _ (rises : rising key xs ≡ true) (low mid high row : ℕ) (at : row ≡ get_or xs mid row) (lt : mid < length xs) where
    here : (d : ℕ) → row ≡ get_or xs mid d
    here d = get_or_read xs mid row lt at d

    pub halved-less : compared (key row) name ≡ Less → Halved low high → Halved (mid + 1) high
    halved-less before s = (
      λ k d l h.
          let middle = subst (λ q. compared (key q) name ≡ Less) (here d) before in
          ⊎_elim
          (λ (b : k < mid). nat_list_cmp_total.trans (key (get_or xs k d)) (key (get_or xs mid d)) name (less _ (rising-at key xs d rises k mid b lt)) middle)
          (λ (b : mid ≤ k). let e : mid ≡ k = omega arith in subst (λ i. compared (key (get_or xs i d)) name ≡ Less) e middle)
          (cases_lt k mid),
      s.1,
    )

    pub halved-greater : compared (key row) name ≡ Greater → Halved low high → Halved low mid
    halved-greater after s = (
      s.0,
      λ k d l h.
          let middle = subst (λ q. compared (key q) name ≡ Greater) (here d) after in
          ⊎_elim
          (λ (b : mid < k).
          let first = turned (key (get_or xs mid d)) name Greater middle in
          let later = less _ (rising-at key xs d rises mid k b h) in
          turned name (key (get_or xs k d)) Less (nat_list_cmp_total.trans name (key (get_or xs mid d)) (key (get_or xs k d)) first later))
          (λ (b : k ≤ mid). let e : mid ≡ k = omega arith in subst (λ i. compared (key (get_or xs i d)) name ≡ Greater) e middle)
          (cases_lt mid k),
    )

module _ (names : List (List ℕ)) (name xs : List ℕ) (o : IsOrder names xs) where
  pub met : (mid row : ℕ) → row ≡ get_or xs mid row → mid < length xs → compared (named names row) name ≡ Equal → Located names name xs (Ok mid)
  met mid row at lt same = found names name xs o mid lt (when-equal _ _ (subst (λ q. compared (named names q) name ≡ Equal) (get_or_read xs mid row lt at 0) same))

  pub unmet : (low high : ℕ) → low ≤ length xs → high ≤ low → Halved (named names) name xs low high → Located names name xs (Err low)
  unmet low high le past s = missing names name xs o low le (s.0, λ k d l h. s.1 k d (omega arith) h)
