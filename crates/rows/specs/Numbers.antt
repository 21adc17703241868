-- Lists of numbers: tests, sums, and lists as sets.
use Rattle.std.specs.Prelude.{ℕ, ◌+◌, Bool, false, ◌||◌, List, [], ◌∷◌, ◌++◌, nat_eq}
use Rattle.std.specs.List.{list_any, list_all}

-- whether an item of the list passes the test
abbrev pub any : {A : Type 0} → (A → Bool) → List A → Bool
any p xs = list_any p xs

-- whether the number stands in the list
abbrev pub member : ℕ → List ℕ → Bool
member n = any (nat_eq n)

-- the lists one after another, as one list
abbrev pub concat : {A : Type 0} → List (List A) → List A
concat [] = []
concat (xs ∷ xss) = xs ++ concat xss

-- whether every item of the list passes the test
abbrev pub all_of : {A : Type 0} → (A → Bool) → List A → Bool
all_of p xs = list_all p xs

-- whether a number stands in the list twice
abbrev pub repeats : List ℕ → Bool
repeats [] = false
repeats (n ∷ ns) = member n ns || repeats ns

-- the sum of what the items count
abbrev pub total : {A : Type 0} → (A → ℕ) → List A → ℕ
total f [] = 0
total f (x ∷ xs) = f x + total f xs
