-- Each entry of a list stands at its offset, and a glance there shows its row.
use Rattle.std.proofs.Common.{◌≡◌, ℕ, List, Some, None, Option, sym, refl, ap, ◌∙◌, Bor}
use Rattle.std.specs.Option.{option_map}
use Rattle.std.specs.List.{slice_get}
use Rattle.rows.specs.Rows.{Row}
use Rattle.packed_layout.specs.Layout.{Head, Entry, read_all}
use Rattle.packed.specs.declared.view.Outline.{Outline}
use Rattle.packed.specs.Views.{outlined, outline_at, glanced, read_at}
use Rattle.packed_rows.specs.Lists.{entries_of}
use Rattle.packed_rows.proofs.Opening.{Stands, entry-stands, stands-glanced}
use Rattle.module_table.specs.Drafts.{read_row, outline_row, glance_row}

-- some reference to bytes
abbrev lent : List ℕ → Bor (List ℕ)
lent s = record { ref_ptr = (0, 0); now = s }

-- a value with the fields of an outline
abbrev view : Head × (ℕ × List ℕ) → Outline
view ((number, (sort, (flags, (exports, (mark, (id, stable_id)))))), (count, imports)) = record { head = record { number = number; facts = record { sort = sort; flags = flags; exports = exports; mark = mark }; id = lent id; stable_id = lent stable_id }; count = count; imports = lent imports }

outlined-view : (o : Option (Head × (ℕ × List ℕ))) → option_map outlined (option_map view o) ≡ o
outlined-view None = refl
outlined-view (Some ((number, (sort, (flags, (exports, (mark, (id, stable_id)))))), (count, imports))) = refl

row-view : (o : Option (Head × (ℕ × List ℕ))) → option_map outline_row o ≡ option_map (λ (p : ℕ × Row). p.1) (option_map glanced (option_map view o))
row-view None = refl
row-view (Some ((number, (sort, (flags, (exports, (mark, (id, stable_id)))))), (count, imports))) = refl

module _ (s : List ℕ) (e : Entry) (t : Stands s e) where
  pub stands_read : read_row (read_at s e.offset) ≡ Some e.row
  stands_read = ap read_row (sym t.1)

  pub stands-given : glance_row s (Some e.offset) ≡ Some e.row
  stands-given =
      let o = outline_at s e.offset in
      row-view o ∙ ap (option_map (λ (p : ℕ × Row). p.1)) (stands-glanced s e t (option_map view o) (outlined-view o))

-- an entry of a list, by its place
pub stands_at : (s : List ℕ) (k : ℕ) (e : Entry) → slice_get (entries_of (read_all s)) k ≡ Some e → Stands s e
stands_at s k e h = entry-stands s (read_all s) refl k e h
