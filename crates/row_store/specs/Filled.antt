-- What a contract sees of a vector that is reserved once.
use Rattle.std.specs.Prelude.{ℕ, ◌+◌, ◌≤◌, List, ◌++◌, length, refl}
use denote.RawPtr.{Ptr, coded_ptr}
use Rattle.std.specs.Coded.{Coded, code_by, coded×, coded_list, coded_ℕ}

-- the items, and how many there may be
pub record Filled (A : Type 0) : Type 0 where
  pub items : List A
  pub most : ℕ
  -- where its memory lies
  pub place : Ptr

module _ {A : Type 0} where
  -- these items, of so many that there may be, at a place
  abbrev pub filled : List A → ℕ → Ptr → Filled A
  filled xs n p = record { items = xs; most = n; place = p }

  -- how a vector is coded: as the tuple of its fields
  abbrev pub filled_code : Coded A → Coded (Filled A)
  filled_code c = code_by (List A × (ℕ × Ptr)) (coded× (coded_list c) (coded× coded_ℕ coded_ptr)) (λ v. (v.items, (v.most, v.place))) (λ p. filled p.0 p.1.0 p.1.1) (λ _. refl)

  -- more items follow; there may be as many as before, at the same place
  abbrev pub added : Filled A → List A → Filled A
  added v xs = filled (v.items ++ xs) v.most v.place

  -- there is room for n more
  abbrev pub HasRoom : Filled A → ℕ → Type 0
  HasRoom v n = length v.items + n ≤ v.most
