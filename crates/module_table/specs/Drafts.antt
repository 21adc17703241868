-- A list of rows laid over a table. For each number there is a place: the offset of the row's record in the list, or none.
use Rattle.std.specs.Prelude.{ℕ, cond, List, [], ◌∷◌, ◌++◌, map, length, replicate, Some, None, Ok, Err, Option, Result, nat_lt, slice_set}
use Rattle.std.specs.Option.{option_map, unwrap_or}
use Rattle.rows.specs.Rows.{Row, nowhere}
use Rattle.packed_layout.specs.declared.faults.FaultAt.{FaultAt}
use Rattle.packed_layout.specs.Layout.{Head, Entry, row_of}
use Rattle.module_table.specs.declared.overlay.Overlay.{Overlay}
use Rattle.packed.specs.Views.{read_at, outline_at, records_in}

-- no row of a table is in the list yet
abbrev pub blank : ℕ → List (Option ℕ)
blank n = replicate n None

-- a row is given a place: that of the row with its number, or one after the last
abbrev pub put_at : List (Option ℕ) → ℕ → ℕ → List (Option ℕ)
put_at places row offset = cond (nat_lt row (length places)) (slice_set places row (Some offset)) (places ++ Some offset ∷ [])

-- an entry gives its row a place
abbrev pub placing : List (Option ℕ) → Entry → List (Option ℕ)
placing places e = put_at places e.number e.offset

-- the places after a list of entries
abbrev pub places_by : List (Option ℕ) → List Entry → List (Option ℕ)
places_by places [] = places
places_by places (e ∷ es) = places_by (placing places e) es

-- the row that was read, if one was
abbrev pub read_row : Result (Option (Entry × ℕ)) FaultAt → Option Row
read_row (Err at) = None
read_row (Ok None) = None
read_row (Ok (Some p)) = Some p.0.row

-- what a place gives: the row in the record there
abbrev pub place_row : List ℕ → Option ℕ → Option Row
place_row s None = None
place_row s (Some o) = read_row (read_at s o)

-- the rows that the places give
abbrev pub given_by : List ℕ → List (Option ℕ) → List (Option Row)
given_by s places = map (place_row s) places

-- the row that the fields of an outline make
abbrev pub outline_row : Head × (ℕ × List ℕ) → Row
outline_row h = (row_of h.0 (records_in h.1.0 h.1.1)).1

-- the same by a glance, for which the record is not checked again
abbrev pub glance_row : List ℕ → Option ℕ → Option Row
glance_row s None = None
glance_row s (Some o) = option_map outline_row (outline_at s o)

-- the rows that the places give, by a glance
abbrev pub glanced_by : List ℕ → List (Option ℕ) → List (Option Row)
glanced_by s places = map (glance_row s) places

-- a table with the rows that are given for it
abbrev pub overlay : List Row → List (Option Row) → List Row
overlay [] [] = []
overlay [] (g ∷ gs) = unwrap_or g nowhere ∷ overlay [] gs
overlay (r ∷ rs) [] = r ∷ rs
overlay (r ∷ rs) (g ∷ gs) = unwrap_or g r ∷ overlay rs gs

-- the table as the list has it so far, by a glance
abbrev pub drafted : List Row → List ℕ → List (Option ℕ) → List Row
drafted table s places = overlay table (glanced_by s places)

-- the rows of an overlay, given what rows a table means
abbrev pub overlaid : {G : Type 0} → (G → List Row) → Overlay G → List Row
overlaid rows o = drafted (rows o.table.now) o.bytes.now o.places.now
