-- The import records of a row, by a view of it.
use Rattle.std.proofs.Common.{◌≡◌, ℕ, zero, suc, List, [], ◌∷◌, map, length, Some, None, Option, unwrap_or, sym, refl, ap, ◌∙◌}
use Rattle.std.specs.Option.{option_map}
use Rattle.std.specs.List.{slice_get}
use Rattle.std.proofs.lemmas.Option.{slice_get-map}
use Rattle.rows.specs.declared.ImportRecord.{ImportRecord}
use Rattle.rows.specs.Rows.{Row, at, nowhere}
use Rattle.packed_layout.specs.Layout.{Entry}
use Rattle.packed.specs.declared.view.RowView.{RowView}
use Rattle.packed.specs.Views.{shown, imports_in}
use Rattle.packed.proofs.Imports
use Rattle.packed.proofs.Places.{import_at, import-is}
use Rattle.packed_rows.specs.Opened.{numbered}

at-nth : (rows : List Row) (k : ℕ) → at rows k ≡ unwrap_or (slice_get rows k) nowhere
at-nth [] k = refl
at-nth (r ∷ rows) zero = refl
at-nth (r ∷ rows) (suc k) = at-nth rows k

-- none where there is no row
abbrev pub viewed : Option RowView → List ImportRecord
viewed None = []
viewed (Some v) = imports_in v.imports

viewed-by : (e : Option Entry) (v : Option RowView) → option_map shown v ≡ option_map numbered e → (unwrap_or (option_map (λ (e : Entry). e.row) e) nowhere).records ≡ viewed v
viewed-by None None h = refl
viewed-by None (Some v) h = cc
viewed-by (Some e) None h = cc
viewed-by (Some e) (Some v) h = ap (λ (o : Option (ℕ × Row)). (unwrap_or (option_map (λ (p : ℕ × Row). p.1) o) nowhere).records) (sym h)

pub records-viewed : (es : List Entry) (place k : ℕ) → place ≡ k → (v : Option RowView) → option_map shown v ≡ option_map numbered (slice_get es place) → (at (map (λ (e : Entry). e.row) es) k).records ≡ viewed v
records-viewed es place k same v h =
    ap (λ (r : Row). r.records) (at-nth (map (λ (e : Entry). e.row) es) k ∙ ap (λ (o : Option Row). unwrap_or o nowhere) (slice_get-map (λ (e : Entry). e.row) es k))
    ∙ viewed-by (slice_get es k) v (h ∙ ap (λ (n : ℕ). option_map numbered (slice_get es n)) same)

row_by : (o : Option Entry) (v : RowView) → Some (shown v) ≡ option_map numbered o → option_map (λ (e : Entry). e.row) o ≡ Some (shown v).1
row_by None v h = cc
row_by (Some e) v h = ap (λ (o : Option (ℕ × Row)). option_map (λ (p : ℕ × Row). p.1) o) (sym h)

none-by : (o : Option Entry) → None ≡ option_map numbered o → option_map (λ (e : Entry). e.row) o ≡ None
none-by None h = refl
none-by (Some e) h = cc

-- what was asked at a place is what the row of that number is
module _ (es : List Entry) (place k : ℕ) (same : place ≡ k) where
  abbrev project : List Row
  project = map (λ (e : Entry). e.row) es

  module _ (v : RowView) (h : Some (shown v) ≡ option_map numbered (slice_get es place)) where
    pub row_is : slice_get project k ≡ Some (shown v).1
    row_is = slice_get-map (λ (e : Entry). e.row) es k ∙ row_by (slice_get es k) v (h ∙ ap (λ (n : ℕ). option_map numbered (slice_get es n)) same)

    at-is : at project k ≡ (shown v).1
    at-is = at-nth project k ∙ ap (λ (o : Option Row). unwrap_or o nowhere) row_is

    pub records_is : (j : ℕ) → import_at v.imports.bytes.now j ≡ slice_get (at project k).records j
    records_is j = import-is v.imports.count v.imports.bytes.now v.imports.whole j ∙ sym (ap (λ (r : Row). slice_get r.records j) at-is)

    pub count-is : v.imports.count ≡ length (at project k).records
    count-is = sym (Imports.count-is v.imports.count v.imports.bytes.now v.imports.whole) ∙ sym (ap (λ (r : Row). length r.records) at-is)

  module _ (h : None ≡ option_map numbered (slice_get es place)) where
    pub row-none : slice_get project k ≡ None
    row-none = slice_get-map (λ (e : Entry). e.row) es k ∙ none-by (slice_get es k) (h ∙ ap (λ (n : ℕ). option_map numbered (slice_get es n)) same)

    at_none : at project k ≡ nowhere
    at_none = at-nth project k ∙ ap (λ (o : Option Row). unwrap_or o nowhere) row-none

    pub records-none : (j : ℕ) → None ≡ slice_get (at project k).records j
    records-none j = sym (ap (λ (r : Row). slice_get r.records j) at_none)

    pub count_none : 0 ≡ length (at project k).records
    count_none = sym (ap (λ (r : Row). length r.records) at_none)
