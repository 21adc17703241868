-- A list of rows that is put into a store, at once and one by one.
use Rattle.std.specs.Prelude.{◌≡◌, ℕ, ◌+◌, ◌<◌, Bool, true, false, cond, not, ◌&&◌, ◌||◌, List, [], ◌∷◌, is_some, Some, fold, count_by, ◌==◌, nat_eq, nat_lt, slice_index}
use Rattle.std.specs.List.{list_all, list_any}
use Rattle.holdings.specs.Maps.{Map, size}
use Rattle.holdings.specs.Stores.{Store, put, takes}

-- the stamp of a row in a list of stamps by row number, and 0 past its end
abbrev pub stamp_in : List ℕ → ℕ → ℕ
stamp_in stamps row = slice_index stamps row

-- these rows of the tablet are at their stamps; every other pair, and the most, are as they were
abbrev pub put_all : Store → ℕ → List ℕ → (ℕ → ℕ) → Store
put_all s tablet rows stamp = record { held = λ t r. cond (t == tablet && list_any (nat_eq r) rows) (Some (stamp r)) (s.held t r); most = s.most }

-- whether a row of the tablet is absent: not held
abbrev pub is_absent : Map → ℕ → ℕ → Bool
is_absent m tablet row = not (is_some (m tablet row))

-- how many of these rows of the tablet are absent, counted along the list
abbrev pub absent : Map → ℕ → List ℕ → ℕ
absent m tablet rows = count_by (is_absent m tablet) rows

-- whether there is no room for all of these rows
abbrev pub full_for : Store → ℕ → List ℕ → Bool
full_for s tablet rows = nat_lt s.most (size s.held + absent s.held tablet rows)

-- whether each row is at most 4,095
abbrev pub rows_in_range : List ℕ → Bool
rows_in_range rows = list_all (λ row. nat_lt row 4096) rows

-- whether a store takes all of these rows
abbrev pub takes_all : Store → ℕ → List ℕ → Bool
takes_all s tablet rows = nat_lt tablet 16 && (rows_in_range rows && not (full_for s tablet rows))

-- the rows are put one by one, each into the store that the one before left
abbrev pub put_each : Store → ℕ → List ℕ → (ℕ → ℕ) → Store
put_each s tablet rows stamp = fold (λ n row. put n tablet row (stamp row)) s rows

-- whether each row is taken, where they are put one by one
abbrev pub takes_each : Store → ℕ → List ℕ → (ℕ → ℕ) → Bool
takes_each s tablet [] stamp = true
takes_each s tablet (row ∷ rows) stamp = takes s tablet row && takes_each (put s tablet row (stamp row)) tablet rows stamp

-- whether some row stands in the list twice
abbrev pub repeats : List ℕ → Bool
repeats [] = false
repeats (row ∷ rows) = list_any (nat_eq row) rows || repeats rows

-- what putting a list has in common with putting its rows one by one: `done` says whether it was put, `left` is the store that it left
pub record OneByOne (s : Store) (tablet : ℕ) (rows : List ℕ) (stamp : ℕ → ℕ) (done : Bool) (left : Store) : Type 0 where
  -- the store is the one that its rows leave
  pub leaves : done ≡ true → left ≡ put_each s tablet rows stamp
  -- if no row stands in it twice, it is put just if each of its rows is taken
  pub judged : tablet < 16 → repeats rows ≡ false → done ≡ takes_each s tablet rows stamp
