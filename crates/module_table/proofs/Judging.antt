-- A loop that judges the rows of a list.
use Rattle.std.proofs.Common.{◌≡◌, ℕ, zero, suc, ◌<◌, ◌≤◌, Bool, true, false, cond, ◌||◌, ltb, List, [], ◌∷◌, ◌++◌, length, get_or, set, is_some, Some, None, Ok, Err, Option, Result, unwrap_or, sym, refl, ap, ◌∙◌, subst, ⊎_elim, arith}
use Rattle.std.specs.List.{slice_get}
use Rattle.std.proofs.lemmas.List.{append_assoc, map_push, length_push, length-set, length-map, length-replicate, map-set}
use Rattle.std.proofs.lemmas.Bool.{cond-true, cond-false, lt-ltb, le-ltb, cases_lt}
use Rattle.rows.specs.Numbers.{member, repeats}
use Rattle.rows.specs.Rows.{Row, nowhere}
use Rattle.rows.proofs.Tests.{passed, is_false}
use Rattle.packed_layout.specs.declared.faults.RowFault.{RowFault}
use Rattle.packed_layout.specs.declared.faults.RowFault.TheVariants.{OutOfTurn, NameClash}
use Rattle.packed_layout.specs.Layout.{Entry}
use Rattle.project.specs.Rescan.{placed, merged, clashes, rows_fault, numbers}
use Rattle.module_table.specs.Drafts.{blank, placing, places_by, glance_row, glanced_by, overlay, drafted}
use Rattle.module_table.specs.Judged.{InOrder, row_judged, judged_by, rows_judged}
use Rattle.module_table.proofs.Listing.{repeats-push, listed_at}

-- Lists of entries, one after another.

pub merged-append : (table : List Row) (ds es : List Entry) → merged table (ds ++ es) ≡ merged (merged table ds) es
merged-append table [] es = refl
merged-append table (d ∷ ds) es = merged-append (placed table d) ds es

places-append : (places : List (Option ℕ)) (ds es : List Entry) → places_by places (ds ++ es) ≡ places_by (places_by places ds) es
places-append places [] es = refl
places-append places (d ∷ ds) es = places-append (placing places d) ds es

pub fault-append : (table : List Row) (ds es : List Entry) → rows_fault table ds ≡ None → rows_fault table (ds ++ es) ≡ rows_fault (merged table ds) es
fault-append table [] es h = refl
fault-append table (d ∷ ds) es h =
    let a = passed (ltb (length table) d.number) (OutOfTurn d.offset) _ h in
    let b = passed (clashes table d) (NameClash d.offset) _ a.1 in
    cond-false _ _ _ (is_false (ltb (length table) d.number) a.0) ∙ cond-false _ _ _ (is_false (clashes table d) b.0) ∙ fault-append (placed table d) ds es b.1

-- A row more in the draft.

overlay-set : (table : List Row) (gs : List (Option Row)) (n : ℕ) (q : Row) → n < length gs → overlay table (set gs n (Some q)) ≡ set (overlay table gs) n q
overlay-set table [] n q h = absurd (omega arith)
overlay-set [] (g ∷ gs) zero q h = refl
overlay-set [] (g ∷ gs) (suc n) q h = ap {B = List Row} (λ rs. unwrap_or g nowhere ∷ rs) (overlay-set [] gs n q (omega arith))
overlay-set (r ∷ rs) (g ∷ gs) zero q h = refl
overlay-set (r ∷ rs) (g ∷ gs) (suc n) q h = ap {B = List Row} (λ xs. unwrap_or g r ∷ xs) (overlay-set rs gs n q (omega arith))

overlay-push : (table : List Row) (gs : List (Option Row)) (q : Row) → length table ≤ length gs → overlay table (gs ++ Some q ∷ []) ≡ overlay table gs ++ q ∷ []
overlay-push [] [] q h = refl
overlay-push [] (g ∷ gs) q h = ap {B = List Row} (λ rs. unwrap_or g nowhere ∷ rs) (overlay-push [] gs q (omega arith))
overlay-push (r ∷ rs) [] q h = absurd (omega arith)
overlay-push (r ∷ rs) (g ∷ gs) q h = ap {B = List Row} (λ xs. unwrap_or g r ∷ xs) (overlay-push rs gs q (omega arith))

overlay-long : (table : List Row) (gs : List (Option Row)) → length table ≤ length gs → length (overlay table gs) ≡ length gs
overlay-long [] [] h = refl
overlay-long [] (g ∷ gs) h = ap suc (overlay-long [] gs (omega arith))
overlay-long (r ∷ rs) [] h = absurd (omega arith)
overlay-long (r ∷ rs) (g ∷ gs) h = ap suc (overlay-long rs gs (omega arith))

pub overlay-blank : (s : List ℕ) (table : List Row) → drafted table s (blank (length table)) ≡ table
overlay-blank s [] = refl
overlay-blank s (r ∷ rs) = ap {B = List Row} (λ xs. r ∷ xs) (overlay-blank s rs)

module _ (s : List ℕ) (table : List Row) (places : List (Option ℕ)) (e : Entry) (seen : glance_row s (Some e.offset) ≡ Some e.row) (wide : length table ≤ length places) where
  glanced-long : length (glanced_by s places) ≡ length places
  glanced-long = length-map places (glance_row s)

  drafted-long : length (drafted table s places) ≡ length places
  drafted-long = (let l = glanced-long in overlay-long table (glanced_by s places) (omega arith)) ∙ glanced-long

  step-held : e.number < length places → drafted table s (placing places e) ≡ placed (drafted table s places) e
  step-held h =
      let l = glanced-long in let d = drafted-long in
      let a : placing places e ≡ set places e.number (Some e.offset) = cond-true _ _ _ (lt-ltb e.number (length places) h) in
      let b : placed (drafted table s places) e ≡ set (drafted table s places) e.number e.row = cond-true _ _ _ (lt-ltb e.number (length (drafted table s places)) (omega arith)) in
      ap (drafted table s) a ∙ ap (overlay table) (map-set (glance_row s) places e.number (Some e.offset) ∙ ap (set (glanced_by s places) e.number) seen) ∙ overlay-set table (glanced_by s places) e.number e.row (omega arith) ∙ sym b

  step-new : length places ≤ e.number → drafted table s (placing places e) ≡ placed (drafted table s places) e
  step-new h =
      let l = glanced-long in let d = drafted-long in
      let a : placing places e ≡ places ++ Some e.offset ∷ [] = cond-false _ _ _ (le-ltb e.number (length places) h) in
      let b : placed (drafted table s places) e ≡ drafted table s places ++ e.row ∷ [] = cond-false _ _ _ (le-ltb e.number (length (drafted table s places)) (omega arith)) in
      ap (drafted table s) a ∙ ap (overlay table) (map_push (glance_row s) places (Some e.offset) ∙ ap (λ (g : Option Row). glanced_by s places ++ g ∷ []) seen) ∙ overlay-push table (glanced_by s places) e.row (omega arith) ∙ sym b

  pub drafted-step : drafted table s (placing places e) ≡ placed (drafted table s places) e
  drafted-step = ⊎_elim step-held step-new (cases_lt e.number (length places))

placing-long : (places : List (Option ℕ)) (e : Entry) → length places ≤ length (placing places e)
placing-long places e = ⊎_elim
    (λ (h : e.number < length places). subst (λ (ps : List (Option ℕ)). length places ≤ length ps) (sym (cond-true _ _ _ (lt-ltb e.number (length places) h))) (simp length-set (omega arith)))
    (λ (h : length places ≤ e.number). subst (λ (ps : List (Option ℕ)). length places ≤ length ps) (sym (cond-false _ _ _ (le-ltb e.number (length places) h))) (simp length_push (omega arith)))
    (cases_lt e.number (length places))

-- What holds while a list is judged: some entries are done, and the others are to come.

pub record Judging (table : List Row) (s : List ℕ) (es done todo : List Entry) (places : List (Option ℕ)) (ids stables : List ℕ) (twice : Bool) : Type 0 where
  pub split : done ++ todo ≡ es
  pub clean : rows_fault table done ≡ None
  pub listed : places ≡ places_by (blank (length table)) done
  pub wide : length table ≤ length places
  pub draft : drafted table s places ≡ merged table done
  pub orders : InOrder (merged table done) ids stables
  pub told : twice ≡ repeats (numbers done)

pub judging-start : (table : List Row) (s : List ℕ) (es : List Entry) (places : List (Option ℕ)) (ids stables : List ℕ) → places ≡ blank (length table) → InOrder table ids stables → Judging table s es [] es places ids stables false
judging-start table s es places ids stables e o =
    let long : length places ≡ length table = ap length e ∙ length-replicate (length table) None in
    record { split = refl; clean = refl; listed = e; wide = omega arith; draft = ap (drafted table s) e ∙ overlay-blank s table; orders = o; told = refl }

-- the answer for the next entry
module _ {table : List Row} {s : List ℕ} {es done todo : List Entry} {places : List (Option ℕ)} {ids stables : List ℕ} {twice : Bool} (j : Judging table s es done todo places ids stables twice) where
  pub judging-long : length places ≡ length (drafted table s places)
  judging-long =
      let a = length-map places (glance_row s) in
      sym (overlay-long table (glanced_by s places) (let w = j.wide in omega arith) ∙ a)

  pub judging-left : rows_fault table es ≡ rows_fault (merged table done) todo
  judging-left = ap (rows_fault table) (sym j.split) ∙ fault-append table done todo j.clean

-- a row without a fault
judged-ok : (rows : List Row) (b tw : Bool) (e : Entry) (rest : List Entry) → Ok tw ≡ row_judged rows b e → (tw ≡ b) × (rows_fault rows (e ∷ rest) ≡ rows_fault (placed rows e) rest)
judged-ok rows b tw e rest = go (ltb (length rows) e.number) (clashes rows e)
  where
    go : (x y : Bool) → Ok tw ≡ cond x (Err (OutOfTurn e.offset)) (cond y (Err (NameClash e.offset)) (Ok b)) → (tw ≡ b) × (cond x (Some (OutOfTurn e.offset)) (cond y (Some (NameClash e.offset)) (rows_fault (placed rows e) rest)) ≡ rows_fault (placed rows e) rest)
    go true y h = let z : ◌≡◌ {A = ℕ} 0 1 = cc in absurd (omega arith)
    go false true h = let z : ◌≡◌ {A = ℕ} 0 1 = cc in absurd (omega arith)
    go false false h = (cc, refl)

judged-err : (rows : List Row) (b : Bool) (e : Entry) (rest : List Entry) (f : RowFault) → Err f ≡ row_judged rows b e → rows_fault rows (e ∷ rest) ≡ Some f
judged-err rows b e rest f = go (ltb (length rows) e.number) (clashes rows e)
  where
    go : (x y : Bool) → ◌≡◌ {A = Result Bool RowFault} (Err f) (cond x (Err (OutOfTurn e.offset)) (cond y (Err (NameClash e.offset)) (Ok b))) → cond x (Some (OutOfTurn e.offset)) (cond y (Some (NameClash e.offset)) (rows_fault (placed rows e) rest)) ≡ Some f
    go true y h = cc
    go false true h = cc
    go false false h = let z : ◌≡◌ {A = ℕ} 0 1 = cc in absurd (omega arith)

module _ {table : List Row} {s : List ℕ} {es done : List Entry} {e : Entry} {rest : List Entry} {places : List (Option ℕ)} {ids stables : List ℕ} {twice : Bool} (j : Judging table s es done (e ∷ rest) places ids stables twice) where
  pub judging-turn : (places' : List (Option ℕ)) (ids' stables' : List ℕ) (tw : Bool) → glance_row s (Some e.offset) ≡ Some e.row → Ok tw ≡ row_judged (drafted table s places) (is_some (get_or places e.number None)) e → places' ≡ placing places e → InOrder (placed (drafted table s places) e) ids' stables' → Judging table s es (done ++ e ∷ []) rest places' ids' stables' (twice || tw)
  judging-turn places' ids' stables' tw seen ok is o =
      let step = judged-ok (drafted table s places) (is_some (get_or places e.number None)) tw e [] ok in
      let next : merged table (done ++ e ∷ []) ≡ placed (merged table done) e = merged-append table done (e ∷ []) in
      let there : tw ≡ member e.number (numbers done) = step.0 ∙ ap (λ (ps : List (Option ℕ)). is_some (get_or ps e.number None)) j.listed ∙ listed_at table done j.clean e.number in
      record {
        split = append_assoc done (e ∷ []) rest ∙ j.split;
        clean = fault-append table done (e ∷ []) j.clean ∙ ap (λ (rs : List Row). rows_fault rs (e ∷ [])) (sym j.draft) ∙ step.1;
        listed = is ∙ ap (λ (ps : List (Option ℕ)). placing ps e) j.listed ∙ sym (places-append (blank (length table)) done (e ∷ []));
        wide = (let a = placing-long places e in let b = j.wide in let c = ap length is in omega arith);
        draft = ap (drafted table s) is ∙ drafted-step s table places e seen j.wide ∙ ap (λ (rs : List Row). placed rs e) j.draft ∙ sym next;
        orders = subst (λ (rs : List Row). InOrder rs ids' stables') (ap (λ (rs : List Row). placed rs e) j.draft ∙ sym next) o;
        told = ap (λ b. b || tw) j.told ∙ ap (λ b. repeats (numbers done) || b) there ∙ sym (ap repeats (map_push (λ (x : Entry). x.number) done e) ∙ repeats-push (numbers done) e.number);
      }

  pub judging-fault : (f : RowFault) → Err f ≡ row_judged (drafted table s places) (is_some (get_or places e.number None)) e → Err f ≡ rows_judged table es
  judging-fault f bad =
      sym (ap (judged_by es) (judging-left j ∙ ap (λ (rs : List Row). rows_fault rs (e ∷ rest)) (sym j.draft) ∙ judged-err (drafted table s places) (is_some (get_or places e.number None)) e rest f bad))

-- the entry that comes next stands in the list
pub next-in : (done rest : List Entry) (e : Entry) → slice_get (done ++ e ∷ rest) (length done) ≡ Some e
next-in [] rest e = refl
next-in (d ∷ done) rest e = next-in done rest e

-- the entry that comes next is one of the list
pub judging-next : {table : List Row} {s : List ℕ} {es done : List Entry} {e : Entry} {rest : List Entry} {places : List (Option ℕ)} {ids stables : List ℕ} {twice : Bool} → Judging table s es done (e ∷ rest) places ids stables twice → slice_get es (length done) ≡ Some e
judging-next {table} {s} {es} {done} {e} {rest} j = subst (λ (xs : List Entry). slice_get xs (length done) ≡ Some e) j.split (next-in done rest e)
