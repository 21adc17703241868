-- Rows in the byte order of their names.
use Rattle.std.specs.Prelude.{◌≡◌, ℕ, zero, suc, ◌<◌, Bool, true, cond, List, [], ◌∷◌, ◌++◌, length, Some, None, Ok, Err, Option, Result, nat_lt, slice_index, slice_index_or}
use Rattle.std.specs.declared.cmp.Ordering.{Ordering}
use Rattle.std.specs.Ordering.{nat_cmp, is_lt}
use Rattle.std.specs.Cmp.Lexicographic.{slice_cmp}
use Rattle.std.specs.Option.{option_map}
use Rattle.std.specs.List.{insert}
use Rattle.rows.specs.Numbers.{member}
use Rattle.std.specs.Str.{bytes_eq}

-- how one name stands to another: the first byte that differs decides, and a name is before those that it begins
abbrev pub compared : List ℕ → List ℕ → Ordering
compared = slice_cmp nat_cmp

-- whether one name is before another
abbrev pub before? : List ℕ → List ℕ → Bool
before? xs ys = is_lt (compared xs ys)

-- the name of a row, given the names of all rows; empty where there is no such row
abbrev pub named : List (List ℕ) → ℕ → List ℕ
named names row = slice_index_or names row []

-- a row put before the first whose name its own is before
abbrev pub insert_by : (ℕ → List ℕ) → ℕ → List ℕ → List ℕ
insert_by key r [] = r ∷ []
insert_by key r (q ∷ qs) = cond (before? (key r) (key q)) (r ∷ q ∷ qs) (q ∷ insert_by key r qs)

-- so many first rows in the order of their names, put in one by one
abbrev pub arranged : List (List ℕ) → ℕ → List ℕ
arranged names zero = []
arranged names (suc n) = insert_by (named names) n (arranged names n)

-- all rows in the order of their names
abbrev pub ordered : List (List ℕ) → List ℕ
ordered names = arranged names (length names)

-- the number of the first row that has a name
abbrev pub number_of : List ℕ → List (List ℕ) → Option ℕ
number_of name [] = None
number_of name (n ∷ ns) = cond (bytes_eq n name) (Some 0) (option_map suc (number_of name ns))

-- no two rows have the same name
abbrev pub Apart : List (List ℕ) → Type 0
Apart names = (p q : ℕ) → p < length names → q < length names → named names p ≡ named names q → p ≡ q

-- these are all rows in the order of their names, which are apart
abbrev pub IsOrder : List (List ℕ) → List ℕ → Type 0
IsOrder names xs = (xs ≡ ordered names) × Apart names

-- where a name stands in an order: at the row that has it, or, if no row has it, where the next row would stand with it
abbrev pub Located : List (List ℕ) → List ℕ → List ℕ → Result ℕ ℕ → Type 0
Located names name xs (Ok i) = Some (slice_index xs i) ≡ number_of name names
Located names name xs (Err i) = (None ≡ number_of name names) × (insert xs i (length names) ≡ ordered (names ++ name ∷ []))

-- rows by name: each has a name before those of all that follow it, and each row stands there, once
pub record ByName (names : List (List ℕ)) (xs : List ℕ) : Type 0 where
  pub rises : (i j : ℕ) → i < j → j < length xs → before? (named names (slice_index xs i)) (named names (slice_index xs j)) ≡ true
  pub complete : (r : ℕ) → member r xs ≡ nat_lt r (length names)
  pub once : length xs ≡ length names

-- an order of names that are apart is by name
abbrev pub OrdersAreByName : Type 0
OrdersAreByName = (names : List (List ℕ)) → Apart names → ByName names (ordered names)
