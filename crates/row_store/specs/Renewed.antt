-- What a rewrite makes of the rows, and what it takes of the room.
use Rattle.std.specs.Prelude.{ℕ, ◌+◌, min, Bool, ◌||◌, List, [], ◌∷◌, ◌++◌, length, drop, Some, None, Option, nat_lt, slice_index_or}
use Rattle.std.specs.List.{slice_get}
use Rattle.std.specs.Option.{option_map}
use Rattle.rows.specs.Numbers.{total}
use Rattle.rows.specs.Rows.{Row, facts_of}
use Rattle.packed.specs.declared.view.RowView.{RowView}
use Rattle.packed.specs.Views.{shown}
use Rattle.project.specs.declared.Room.{Room}
use Rattle.row_store.specs.Cuts.{row_from}
use Rattle.project.specs.Rescan.{records_of, bytes_of}

-- the row that is given, if one is, as a view shows it
abbrev pub row_given : Option RowView → Option Row
row_given o = option_map (λ v. (shown v).1) o

-- what is given for the row of a number
abbrev pub change_at : List (Option Row) → ℕ → Option Row
change_at gs n = slice_index_or gs n None

-- the row, or none
abbrev pub list_of : Option Row → List Row
list_of None = []
list_of (Some r) = r ∷ []

-- the row q in the place of another: a row that is there keeps its names
abbrev pub taking : Option Row → Row → Row
taking None q = q
taking (Some old) q = row_from (facts_of q) old.id old.stable_id q.records

-- what comes of a row, if there is one, and of what is given for it
abbrev pub coming : Option Row → Option Row → List Row
coming old None = list_of old
coming old (Some q) = taking old q ∷ []

-- the rows from number n on, after what is given for them
abbrev pub renewed : List Row → ℕ → List (Option Row) → List Row
renewed rows n [] = []
renewed rows n (g ∷ gs) = coming (slice_get rows n) g ++ renewed rows (n + 1) gs

-- what is given for a number counts as much as its row
abbrev pub weigh : (Row → ℕ) → Option Row → ℕ
weigh f None = 0
weigh f (Some q) = f q

-- how many import records are given
abbrev pub given_records : Option Row → ℕ
given_records = weigh records_of

-- how many bytes of names are given
abbrev pub given_bytes : Option Row → ℕ
given_bytes = weigh bytes_of

-- more rows, more import records or more bytes of names than there is room for, beside what is held
abbrev pub overfull : Room → List Row → ℕ → List (Option Row) → Bool
overfull room rows written gs =
    nat_lt (min room.rows 4096) (length gs) || (nat_lt room.records (total records_of rows + total given_records gs) || nat_lt room.bytes (written + total given_bytes gs))

-- how many bytes the names of the further rows take
abbrev pub fresh : List Row → List (Option Row) → ℕ
fresh rows gs = total given_bytes (drop (length rows) gs)

-- how many bytes of names are added where this is given: none where a row is there
abbrev pub new_bytes : Option Row → Option Row → ℕ
new_bytes None g = given_bytes g
new_bytes (Some old) g = 0
