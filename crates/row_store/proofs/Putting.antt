-- A store whose other side grows by a row.
use Rattle.std.proofs.Common.{◌≡◌, ℕ, ◌+◌, ◌<◌, ◌≤◌, min, true, List, [], ◌∷◌, ◌++◌, length, Option, sym, refl, ap, ◌∙◌, subst, Some, length-append, append-nil, arith}
use Rattle.std.proofs.lemmas.List.{length-map}
use Rattle.std.specs.Option.{option_map}
use Rattle.std.specs.List.{slice_get}
use Rattle.std.proofs.lemmas.Bool.{le-leb}
use Rattle.std.proofs.lemmas.Option.{slice_get-map}
use Rattle.rows.specs.declared.Facts.{Facts}
use Rattle.rows.specs.declared.ImportRecord.{ImportRecord}
use Rattle.rows.specs.Numbers.{total}
use Rattle.rows.specs.Rows.{Row}
use Rattle.packed.specs.declared.view.RowView.{RowView}
use Rattle.project.specs.declared.Room.{Room}
use Rattle.project.specs.Rescan.{records_of}
use Rattle.row_store.specs.declared.Names.{Names}
use Rattle.row_store.specs.declared.Head.{Head}
use Rattle.row_store.specs.declared.Side.{Side}
use Rattle.row_store.specs.declared.store.RowStore.{RowStore}
use Rattle.row_store.specs.Cuts.{cut, row_from, row_of}
use Rattle.row_store.specs.Filled.{Filled, added}
use Rattle.row_store.specs.Sides.{rows_in, within, Stands, Few, Roomy}
use Rattle.row_store.specs.Heads.{names_after, with_row}
use Rattle.row_store.specs.Renewed.{row_given}
use Rattle.row_store.specs.Stores.{Told, rows_now, rows_before, told, told_with}
use Rattle.row_store.proofs.Growth.{Keeps, keeps, within-parts, all-at, same-rows, same-stands, more-rows, more-stands, new-id, new-stable_id, new-long}
use Rattle.row_store.proofs.Totals.{total-append}

-- what comes of a row, by what was found of it and what is given for it
pub found : {A : Type 0} (f : Option Row → Option Row → A) (bytes : List ℕ) (s : Side) (n : ℕ) (o there : Option Head) (change given : Option RowView) → o ≡ slice_get s.heads.items n → o ≡ there → change ≡ given
    → f (slice_get (rows_in bytes s) n) (row_given change) ≡ f (option_map (row_of bytes s.records.items) there) (row_given given)
found h bytes s n o there change given e f g =
    ap (λ q. h q (row_given change)) (slice_get-map (row_of bytes s.records.items) s.heads.items n ∙ ap (option_map (row_of bytes s.records.items)) (sym e ∙ f))
    ∙ ap (λ (q : Option RowView). h (option_map (row_of bytes s.records.items) there) (row_given q)) g

-- what the ghost fields of a store say
abbrev pub Kept : Room → Filled ℕ → Side → Side → Type 0
Kept room bytes current former = record {
  roomy : Roomy room current × Roomy room former × (bytes.most ≡ room.bytes);
  few : Few room current × Few room former;
  held : (length current.records.items ≤ room.records) × (length former.records.items ≤ room.records) × (length bytes.items ≤ room.bytes);
  sound : Stands bytes.items current × Stands bytes.items former;
  counted : (length current.records.items ≡ total records_of (rows_in bytes.items current)) × (length former.records.items ≡ total records_of (rows_in bytes.items former));
}

-- a store whose other side grew by rows
pub record Grew (s : RowStore) (bytes : Filled ℕ) (former : Side) (come : List Row) : Type 0 where
  pub kept : Kept s.room bytes s.current former
  pub rows : rows_in bytes.items former ≡ rows_before s ++ come
  pub same : rows_in bytes.items s.current ≡ rows_now s

-- what the store tells then
pub tells : (s : RowStore) (bytes : Filled ℕ) (former : Side) (come : List Row) (n : ℕ) → Grew s bytes former come → length bytes.items ≡ length s.bytes.items + n
    → record { rows = rows_in bytes.items s.current; before = rows_in bytes.items former; written = length bytes.items; room = s.room } ≡ told_with (told s) come n
tells s bytes former come n g e = let r = g.rows in let m = g.same in cc

module _ (s : RowStore) (bytes : Filled ℕ) (former : Side) (names : Names) (f : Facts) (rs : List ImportRecord) (come : List Row) (r : former ≡ with_row s.former names f rs) (c : come ≡ row_from f (cut bytes.items names.id) (cut bytes.items names.stable_id) rs ∷ [])
    (row_fits : length (rows_before s) < min s.room.rows 4096) (records_fit : total records_of (rows_before s) + total records_of come ≤ s.room.records) where
  pub grew : (more : List ℕ) → bytes ≡ added s.bytes more → length s.bytes.items + length more ≤ s.room.bytes → within (length bytes.items) names.id ≡ true → within (length bytes.items) names.stable_id ≡ true → Grew s bytes former come
  grew more e names_fit id stable_id =
      let grown : Keeps s.bytes.items bytes.items = keeps s.bytes.items more bytes.items (ap (λ (v : Filled ℕ). v.items) e) in
      let same = same-rows s.bytes.items bytes.items s.current grown s.sound.0 in
      let rows : rows_in bytes.items former ≡ rows_before s ++ come =
      ap (rows_in bytes.items) r ∙ more-rows s.bytes.items bytes.items s.former grown s.sound.1 names f rs ∙ ap (λ xs. rows_before s ++ xs) (sym c) in
      let many : length (rows_before s) ≡ length s.former.heads.items = length-map _ _ in
      let heads : length former.heads.items ≡ length s.former.heads.items + 1 = ap (λ (t : Side). length t.heads.items) r ∙ length-append s.former.heads.items _ in
      let records : length former.records.items ≡ length s.former.records.items + length rs = ap (λ (t : Side). length t.records.items) r ∙ length-append s.former.records.items rs in
      let long : length bytes.items ≡ length s.bytes.items + length more = ap (λ (v : Filled ℕ). length v.items) e ∙ length-append s.bytes.items more in
      let one : total records_of come ≡ length rs + 0 = ap (total records_of) c in
      let all : total records_of (rows_in bytes.items former) ≡ total records_of (rows_before s) + total records_of come = ap (total records_of) rows ∙ total-append records_of (rows_before s) come in
      record {
        kept = record {
          roomy = (s.roomy.0, subst (λ (t : Side). Roomy s.room t) (sym r) s.roomy.1, ap (λ (v : Filled ℕ). v.most) e ∙ s.roomy.2);
          few = (s.few.0, omega (arith, heads, many));
          held = (s.held.0, omega (arith, records, one, s.counted.1), omega (arith, long));
          sound = (same-stands s.bytes.items bytes.items s.current grown s.sound.0, subst (λ (t : Side). Stands bytes.items t) (sym r) (more-stands s.bytes.items bytes.items s.former grown s.sound.1 names f rs id stable_id));
          counted = (s.counted.0 ∙ ap (total records_of) (sym same), omega (arith, records, one, all, s.counted.1));
        };
        rows = rows;
        same = same;
      }

-- by no row
pub grew-none : (s : RowStore) (come : List Row) → come ≡ [] → Grew s s.bytes s.former come
grew-none s come e =
    record {
      kept = record { roomy = s.roomy; few = s.few; held = s.held; sound = s.sound; counted = s.counted };
      rows = sym (append-nil (rows_before s)) ∙ ap (λ xs. rows_before s ++ xs) (sym e);
      same = refl;
    }

-- by a row under names that are there
module _ (s : RowStore) (n : ℕ) (h : Head) (there : Some h ≡ slice_get s.current.heads.items n) (former : Side) (f : Facts) (rs : List ImportRecord) (come : List Row) where
  pub grew-under : former ≡ with_row s.former h.names f rs → come ≡ row_from f (cut s.bytes.items h.names.id) (cut s.bytes.items h.names.stable_id) rs ∷ [] → length (rows_before s) < min s.room.rows 4096 → total records_of (rows_before s) + total records_of come ≤ s.room.records
      → Grew s s.bytes former come
  grew-under r c row_fits records_fit =
      let names = within-parts (length s.bytes.items) (length s.current.records.items) h (all-at _ s.current.heads.items n h s.sound.0 there) in
      let none : s.bytes ≡ added s.bytes [] = ap (λ xs. record s.bytes { items = xs }) (sym (append-nil s.bytes.items)) in
      grew s s.bytes former h.names f rs come r c row_fits records_fit [] none (omega (arith, s.held.2)) names.id names.stable_id

-- by a row with names that follow the others
module _ (s : RowStore) (bytes : Filled ℕ) (id stable_id : List ℕ) (e : bytes ≡ added s.bytes (id ++ stable_id)) (names : Names) (n : names ≡ names_after s.bytes.items id stable_id) (former : Side) (f : Facts) (rs : List ImportRecord) (come : List Row) where
  pub grew-new : former ≡ with_row s.former names f rs → come ≡ row_from f id stable_id rs ∷ [] → length (rows_before s) < min s.room.rows 4096 → total records_of (rows_before s) + total records_of come ≤ s.room.records → length s.bytes.items + (length id + length stable_id) ≤ s.room.bytes
      → Grew s bytes former come
  grew-new r c row_fits records_fit names_fit =
      let b : bytes.items ≡ s.bytes.items ++ (id ++ stable_id) = ap (λ (v : Filled ℕ). v.items) e in
      let long = new-long s.bytes.items id stable_id bytes.items b in
      let first : cut bytes.items names.id ≡ id = ap (λ (m : Names). cut bytes.items m.id) n ∙ new-id s.bytes.items id stable_id bytes.items b in
      let second : cut bytes.items names.stable_id ≡ stable_id = ap (λ (m : Names). cut bytes.items m.stable_id) n ∙ new-stable_id s.bytes.items id stable_id bytes.items b in
      grew s bytes former names f rs come r
      (c ∙ ap (λ xs. row_from f xs stable_id rs ∷ []) (sym first) ∙ ap (λ xs. row_from f (cut bytes.items names.id) xs rs ∷ []) (sym second))
      row_fits records_fit (id ++ stable_id) e (omega (arith, length-append id stable_id))
      (subst (λ (m : Names). within (length bytes.items) m.id ≡ true) (sym n) (le-leb _ _ (omega arith)))
      (subst (λ (m : Names). within (length bytes.items) m.stable_id ≡ true) (sym n) (le-leb _ _ (omega arith)))

-- what a store tells after rows came, part by part
pub told_parts : (s t : RowStore) (come : List Row) (n : ℕ) → told t ≡ told_with (told s) come n
    → (rows_now t ≡ rows_now s) × (rows_before t ≡ rows_before s ++ come) × (length t.bytes.items ≡ length s.bytes.items + n) × (t.room ≡ s.room)
told_parts s t come n e = (ap (λ (v : Told). v.rows) e, ap (λ (v : Told). v.before) e, ap (λ (v : Told). v.written) e, ap (λ (v : Told). v.room) e)
