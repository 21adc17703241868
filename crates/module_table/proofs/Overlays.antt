-- A table with rows laid over it, row by row.
use Rattle.std.proofs.Common.{◌≡◌, ℕ, zero, suc, List, [], ◌∷◌, map, get_or, Some, None, Option, unwrap_or, Bor, sym, refl, ap, ◌∙◌}
use Rattle.std.specs.Option.{option_map, MatchOption}
use Rattle.std.specs.List.{slice_get}
use Rattle.rows.specs.declared.Facts.{Facts}
use Rattle.rows.specs.declared.Sort.{Sort}
use Rattle.rows.specs.declared.Sort.TheVariants.{External}
use Rattle.rows.specs.Rows.{Row, at, nowhere, facts_of}
use Rattle.packed_layout.specs.Layout.{Head}
use Rattle.packed.specs.declared.view.Outline.{Outline}
use Rattle.packed.specs.Views.{outlined, glanced}
use Rattle.module_table.specs.declared.overlay.NameKind.{NameKind}
use Rattle.module_table.specs.declared.overlay.NameKind.TheVariants.{Id, StableId}
use Rattle.module_table.specs.Names.{name_of, names_of}
use Rattle.module_table.specs.Drafts.{overlay, outline_row, glance_row, glanced_by}

-- the row of a number is the one that is given, or else the table's
pub at_overlay : (table : List Row) (gs : List (Option Row)) (r : ℕ) → at (overlay table gs) r ≡ unwrap_or (get_or gs r None) (at table r)
at_overlay [] [] r = refl
at_overlay [] (g ∷ gs) zero = refl
at_overlay [] (g ∷ gs) (suc r) = at_overlay [] gs r
at_overlay (x ∷ xs) [] r = refl
at_overlay (x ∷ xs) (g ∷ gs) zero = refl
at_overlay (x ∷ xs) (g ∷ gs) (suc r) = at_overlay xs gs r

-- where a row is given, what is told of it is told
pub told-given : {A : Type 0} (f : Row → A) (table : List Row) (gs : List (Option Row)) (r : ℕ) (q : Row) (x : A) → Some q ≡ get_or gs r None → x ≡ f q → x ≡ f (at (overlay table gs) r)
told-given f table gs r q x g e = e ∙ ap (λ (o : Option Row). f (unwrap_or o (at table r))) g ∙ sym (ap f (at_overlay table gs r))

-- where nothing is given, what is told of the table's row is told
pub told-table : {A : Type 0} (f : Row → A) (table : List Row) (gs : List (Option Row)) (r : ℕ) (x : A) → None ≡ get_or gs r None → x ≡ f (at table r) → x ≡ f (at (overlay table gs) r)
told-table f table gs r x g e = e ∙ ap (λ (o : Option Row). f (unwrap_or o (at table r))) g ∙ sym (ap f (at_overlay table gs r))

-- what is no row has no name
pub unnamed : (kind : NameKind) → [] ≡ name_of kind nowhere
unnamed Id = refl
unnamed StableId = refl

-- what a graph tells of a row, or of a row that it does not have
pub told_at : {A : Type 0} (f : Row → A) (rows : List Row) (r : ℕ) → unwrap_or (option_map f (slice_get rows r)) (f nowhere) ≡ f (at rows r)
told_at f [] r = refl
told_at f (q ∷ rows) zero = refl
told_at f (q ∷ rows) (suc r) = told_at f rows r

pub lent_at : (f : Row → List ℕ) (rows : List Row) (r : ℕ) (o : Option (Bor (List ℕ))) (d : Bor (List ℕ)) → option_map (λ b. b.now) o ≡ option_map f (slice_get rows r) → d.now ≡ f nowhere → (unwrap_or o d).now ≡ f (at rows r)
lent_at f rows r o d e n = inside o d ∙ ap (unwrap_or (option_map (λ b. b.now) o)) n ∙ ap (λ x. unwrap_or x (f nowhere)) e ∙ told_at f rows r
  where
    inside : (o : Option (Bor (List ℕ))) (d : Bor (List ℕ)) → (unwrap_or o d).now ≡ unwrap_or (option_map (λ b. b.now) o) d.now
    inside None d = refl
    inside (Some b) d = refl

-- the sort among the facts of a row
both : (o : Option Row) → unwrap_or (option_map (λ (f : Facts). f.sort) (option_map facts_of o)) External ≡ unwrap_or (option_map (λ (q : Row). q.sort) o) External
both None = refl
both (Some q) = refl

pub sort_at : {Q : Facts → Type 0} (rows : List Row) (r : ℕ) (o : Option Facts) (s : Sort) → o ≡ option_map facts_of (slice_get rows r) → ((f : Facts) → Q f → s ≡ f.sort) → MatchOption o (s ≡ External) Q → s ≡ (at rows r).sort
sort_at {Q} rows r o s e q h = is o h ∙ ap (λ (p : Option Facts). unwrap_or (option_map (λ f. f.sort) p) External) e ∙ both (slice_get rows r) ∙ told_at (λ (p : Row). p.sort) rows r
  where
    is : (p : Option Facts) → MatchOption p (s ≡ External) Q → s ≡ unwrap_or (option_map (λ (f : Facts). f.sort) p) External
    is None m = m
    is (Some f) m = q f m

-- the sort among the facts of a row
sort-by : (o : Option Row) (p : Option Facts) → p ≡ option_map facts_of o → option_map (λ (f : Facts). f.sort) p ≡ option_map (λ (q : Row). q.sort) o
sort-by None p e = ap (option_map (λ (f : Facts). f.sort)) e
sort-by (Some q) p e = ap (option_map (λ (f : Facts). f.sort)) e

pub sort-some : (rows : List Row) (r : ℕ) (f : Facts) → Some f ≡ option_map facts_of (slice_get rows r) → Some f.sort ≡ option_map (λ (q : Row). q.sort) (slice_get rows r)
sort-some rows r f e = sort-by (slice_get rows r) (Some f) e

pub sort-none : (rows : List Row) (r : ℕ) → None ≡ option_map facts_of (slice_get rows r) → None ≡ option_map (λ (q : Row). q.sort) (slice_get rows r)
sort-none rows r e = sort-by (slice_get rows r) None e

-- the name of a row in a list of names
pub named-map : (f : Row → List ℕ) (rows : List Row) (r : ℕ) → f nowhere ≡ [] → get_or (map f rows) r [] ≡ f (at rows r)
named-map f [] r e = sym e
named-map f (q ∷ rows) zero e = refl
named-map f (q ∷ rows) (suc r) e = named-map f rows r e

pub named_at : (kind : NameKind) (rows : List Row) (r : ℕ) → get_or (names_of kind rows) r [] ≡ name_of kind (at rows r)
named_at kind rows r = named-map (name_of kind) rows r (sym (unnamed kind))

-- what a glance at the place of a row shows
pub shown_by : (r : Option Outline) (o : Option (Head × (ℕ × List ℕ))) → option_map outlined r ≡ o → option_map (λ (v : Outline). (glanced v).1) r ≡ option_map outline_row o
shown_by None o e = ap (option_map outline_row) e
shown_by (Some v) o e = ap (option_map outline_row) e

pub glanced_at : (s : List ℕ) (places : List (Option ℕ)) (r : ℕ) → glance_row s (get_or places r None) ≡ get_or (glanced_by s places) r None
glanced_at s [] r = refl
glanced_at s (p ∷ places) zero = refl
glanced_at s (p ∷ places) (suc r) = glanced_at s places r
