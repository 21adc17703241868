-- What the places of a list tell of its entries.
use Rattle.std.proofs.Common.{◌≡◌, ℕ, zero, suc, ◌+◌, ◌<◌, ◌≤◌, Bool, true, false, cond, not, ◌||◌, T, eqb, ltb, List, [], ◌∷◌, ◌++◌, length, get_or, set, is_some, Some, None, Option, sym, refl, ap, ◌∙◌, subst, ⊎_elim, arith, nltb→le, T_not, length-set}
use lib.Dec.{eqb_refl}
use Rattle.std.proofs.Math.Bool.{or-true, or-false, or_assoc}
use Rattle.std.proofs.lemmas.Bool.Decides.{nat_tests}
use Rattle.std.proofs.lemmas.Cmp.{nat_eq_equiv}
use Rattle.std.specs.List.{slice_get}
use Rattle.std.proofs.lemmas.List.{get_or-set_same, get_or-set_other, get_or_append_left, get_or_push, get_or_past, length_push, length-replicate}
use Rattle.std.proofs.lemmas.Bool.{cases_eq, cases_lt, lt-ltb, le-ltb, eq-eqb, ne_eqb}
use Rattle.rows.specs.Numbers.{any, member, repeats, total}
use Rattle.rows.specs.Rows.{Row}
use Rattle.rows.proofs.Tests.{both-not, one, other}
use Rattle.packed_layout.specs.Layout.{Entry}
use Rattle.packed.specs.Views.{read_at}
use Rattle.row_store.specs.Renewed.{weigh}
use Rattle.project.specs.Rescan.{placed, merged, rows_fault, numbers, rows_of}
use Rattle.project.proofs.Placing.{tests, merged-longer}
use Rattle.module_table.specs.Drafts.{blank, placing, places_by, read_row, place_row, given_by}

-- Numbers that repeat.

-- one more number in a list
pub member-push : (m : ℕ) (ns : List ℕ) (n : ℕ) → member m (ns ++ n ∷ []) ≡ (member m ns || eqb m n)
member-push m [] n = or-false (eqb m n)
member-push m (k ∷ ns) n = ap (λ b. eqb m k || b) (member-push m ns n) ∙ sym (or_assoc (eqb m k) (member m ns) (eqb m n))

-- one more number repeats if it was there before
pub repeats-push : (ns : List ℕ) (n : ℕ) → repeats (ns ++ n ∷ []) ≡ (repeats ns || member n ns)
repeats-push [] n = refl
repeats-push (m ∷ ns) n =
    let rest = repeats-push ns n in let more = member-push m ns n in let swap = nat_eq_equiv.symm m n in
    grind (arith, nat_tests)

-- Places.

pub blank-at : (n r : ℕ) → get_or (blank n) r None ≡ None
blank-at zero r = refl
blank-at (suc n) zero = refl
blank-at (suc n) (suc r) = blank-at n r

-- one entry more
module _ (places : List (Option ℕ)) (e : Entry) (near : e.number ≤ length places) where
  pub replaced : e.number < length places → placing places e ≡ set places e.number (Some e.offset)
  replaced h = ap (λ x. cond x (set places e.number (Some e.offset)) (places ++ Some e.offset ∷ [])) (lt-ltb e.number (length places) h)

  pub added : length places ≤ e.number → placing places e ≡ places ++ Some e.offset ∷ []
  added h = ap (λ x. cond x (set places e.number (Some e.offset)) (places ++ Some e.offset ∷ [])) (le-ltb e.number (length places) h)

  -- its row has a place
  pub placing-here : get_or (placing places e) e.number None ≡ Some e.offset
  placing-here = ⊎_elim
      (λ h. ap (λ ps. get_or ps e.number None) (replaced h) ∙ get_or-set_same places e.number (Some e.offset) None h)
      (λ h. ap (λ ps. get_or ps e.number None) (added h) ∙ get_or_push places (Some e.offset) None e.number (omega arith))
      (cases_lt e.number (length places))

  -- the others are as they were
  pub placing-there : (r : ℕ) → (r ≡ e.number → ⊥) → get_or (placing places e) r None ≡ get_or places r None
  placing-there r apart = ⊎_elim old new (cases_lt e.number (length places))
    where
      old : e.number < length places → get_or (placing places e) r None ≡ get_or places r None
      old h = ap (λ ps. get_or ps r None) (replaced h) ∙ get_or-set_other places e.number r (Some e.offset) None apart

      past : length places ≤ e.number → length places ≤ r → get_or (places ++ Some e.offset ∷ []) r None ≡ get_or places r None
      past h l =
          let far : length (places ++ Some e.offset ∷ []) ≤ r = omega (arith, length_push places (Some e.offset), apart) in
          get_or_past (places ++ Some e.offset ∷ []) r None far ∙ sym (get_or_past places r None l)

      new : length places ≤ e.number → get_or (placing places e) r None ≡ get_or places r None
      new h = ap (λ ps. get_or ps r None) (added h) ∙ ⊎_elim (λ l. get_or_append_left places (Some e.offset ∷ []) None r l) (past h) (cases_lt r (length places))

  pub placing-listed : (r : ℕ) → is_some (get_or (placing places e) r None) ≡ (is_some (get_or places r None) || eqb r e.number)
  placing-listed r = ⊎_elim same apart (cases_eq r e.number)
    where
      same : r ≡ e.number → is_some (get_or (placing places e) r None) ≡ (is_some (get_or places r None) || eqb r e.number)
      same h =
          ap (λ k. is_some (get_or (placing places e) k None)) h ∙ ap is_some placing-here
          ∙ sym (ap (λ b. is_some (get_or places r None) || b) (eq-eqb r e.number h) ∙ or-true (is_some (get_or places r None)))

      apart : (r ≡ e.number → ⊥) → is_some (get_or (placing places e) r None) ≡ (is_some (get_or places r None) || eqb r e.number)
      apart h =
          ap is_some (placing-there r h)
          ∙ sym (ap (λ b. is_some (get_or places r None) || b) (ne_eqb r e.number h) ∙ or-false (is_some (get_or places r None)))

-- places and rows are as many before and after an entry
pub placing-length : (table : List Row) (places : List (Option ℕ)) (e : Entry) → length places ≡ length table → length (placing places e) ≡ length (placed table e)
placing-length table places e same =
    ap (λ k. length (cond (ltb e.number k) (set places e.number (Some e.offset)) (places ++ Some e.offset ∷ []))) same
    ∙ either_way (ltb e.number (length table))
  where
    either_way : (b : Bool) → length (cond b (set places e.number (Some e.offset)) (places ++ Some e.offset ∷ [])) ≡ length (cond b (set table e.number e.row) (table ++ e.row ∷ []))
    either_way true = length-set places e.number (Some e.offset) ∙ same ∙ sym (length-set table e.number e.row)
    either_way false = length_push places (Some e.offset) ∙ ap (λ k. k + 1) same ∙ sym (length_push table e.row)

pub places-length : (table : List Row) (places : List (Option ℕ)) (es : List Entry) → length places ≡ length table → length (places_by places es) ≡ length (merged table es)
places-length table places [] same = same
places-length table places (e ∷ es) same = places-length (placed table e) (placing places e) es (placing-length table places e same)

-- there are as many places as rows
pub listed-length : (table : List Row) (es : List Entry) → length (places_by (blank (length table)) es) ≡ length (merged table es)
listed-length table es = places-length table (blank (length table)) es (length-replicate (length table) None)

pub places-listed : (table : List Row) (places : List (Option ℕ)) (es : List Entry) → length places ≡ length table → rows_fault table es ≡ None → (r : ℕ) → is_some (get_or (places_by places es) r None) ≡ (is_some (get_or places r None) || member r (numbers es))
places-listed table places [] same h r = sym (or-false (is_some (get_or places r None)))
places-listed table places (e ∷ es) same h r =
    let t = tests table e es h in
    let near : e.number ≤ length places = (let n = t.0.near in omega arith) in
    places-listed (placed table e) (placing places e) es (placing-length table places e same) t.1 r
    ∙ ap (λ b. b || member r (numbers es)) (placing-listed places e near r)
    ∙ or_assoc (is_some (get_or places r None)) (eqb r e.number) (member r (numbers es))

-- just the rows of the list have a place
pub listed_at : (table : List Row) (es : List Entry) → rows_fault table es ≡ None → (r : ℕ) → is_some (get_or (places_by (blank (length table)) es) r None) ≡ member r (numbers es)
listed_at table es h r = places-listed table (blank (length table)) es (length-replicate (length table) None) h r ∙ ap (λ o. is_some o || member r (numbers es)) (blank-at (length table) r)

-- where no row of the table is listed, the table grows unless nothing is
pub listed-none : (table : List Row) (es : List Entry) → rows_fault table es ≡ None → T (not (any (λ n. ltb n (length table)) (numbers es))) → eqb (length (merged table es)) (length table) ≡ eqb (length (numbers es)) 0
listed-none table [] h new = eq-eqb (length table) (length table) refl
listed-none table (e ∷ es) h new =
    let t = tests table e es h in
    let past : length table ≤ e.number = nltb→le e.number (length table) (both-not (ltb e.number (length table)) _ new).0 in
    let grown : length (placed table e) ≡ length table + 1 = ap (λ b. length (cond b (set table e.number e.row) (table ++ e.row ∷ []))) (le-ltb e.number (length table) past) ∙ length_push table e.row in
    let longer = merged-longer (placed table e) es t.1 in
    ne_eqb (length (merged (placed table e) es)) (length table) (λ q. omega arith) ∙ sym (ne_eqb (suc (length (numbers es))) 0 (λ q. omega arith))

-- Totals.

module _ (f : Row → ℕ) (s : List ℕ) where
  pub set-total : (places : List (Option ℕ)) (n o : ℕ) (q : Row) → n < length places → get_or places n None ≡ None → read_row (read_at s o) ≡ Some q → total (weigh f) (given_by s (set places n (Some o))) ≡ total (weigh f) (given_by s places) + f q
  set-total [] n o q h free is = absurd (omega arith)
  set-total (p ∷ places) zero o q h free is =
      let here = ap (weigh f) is in
      let none = ap (λ x. weigh f (place_row s x)) free in
      omega arith
  set-total (p ∷ places) (suc n) o q h free is = let rest = set-total places n o q (omega arith) free is in omega arith

  pub push-total : (places : List (Option ℕ)) (o : ℕ) (q : Row) → read_row (read_at s o) ≡ Some q → total (weigh f) (given_by s (places ++ Some o ∷ [])) ≡ total (weigh f) (given_by s places) + f q
  push-total [] o q is = let here = ap (weigh f) is in omega arith
  push-total (p ∷ places) o q is = let rest = push-total places o q is in omega arith

  pub placing-total : (places : List (Option ℕ)) (e : Entry) → e.number ≤ length places → get_or places e.number None ≡ None → read_row (read_at s e.offset) ≡ Some e.row → total (weigh f) (given_by s (placing places e)) ≡ total (weigh f) (given_by s places) + f e.row
  placing-total places e near free is = ⊎_elim
      (λ h. ap (λ ps. total (weigh f) (given_by s ps)) (replaced places e near h) ∙ set-total places e.number e.offset e.row h free is)
      (λ h. ap (λ ps. total (weigh f) (given_by s ps)) (added places e near h) ∙ push-total places e.offset e.row is)
      (cases_lt e.number (length places))

  abbrev pub Stand : List Entry → Type 0
  Stand es = (k : ℕ) (e : Entry) → slice_get es k ≡ Some e → read_row (read_at s e.offset) ≡ Some e.row

  pub places-total : (table : List Row) (places : List (Option ℕ)) (es : List Entry) → length places ≡ length table → rows_fault table es ≡ None → T (not (repeats (numbers es))) → ((n : ℕ) → T (member n (numbers es)) → get_or places n None ≡ None) → Stand es → total (weigh f) (given_by s (places_by places es)) ≡ total (weigh f) (given_by s places) + total f (rows_of es)
  places-total table places [] same h once free stand = omega arith
  places-total table places (e ∷ es) same h once free stand =
      let t = tests table e es h in
      let near : e.number ≤ length places = (let n = t.0.near in omega arith) in
      let new = both-not (member e.number (numbers es)) _ once in
      let first = free e.number (one (eqb e.number e.number) _ (eqb_refl e.number)) in
      let grown = placing-total places e near first (stand 0 e refl) in
      let apart : (n : ℕ) → T (member n (numbers es)) → n ≡ e.number → ⊥ = λ n m k. T_not (member e.number (numbers es)) new.0 (subst (λ q. T (member q (numbers es))) k m) in
      let later : (n : ℕ) → T (member n (numbers es)) → get_or (placing places e) n None ≡ None = λ n m. placing-there places e near n (apart n m) ∙ free n (other (eqb n e.number) _ m) in
      let rest = places-total (placed table e) (placing places e) es (placing-length table places e same) t.1 new.1 later (λ k x q. stand (suc k) x q) in
      omega arith

pub blank-total : (f : Row → ℕ) (s : List ℕ) (n : ℕ) → total (weigh f) (given_by s (blank n)) ≡ 0
blank-total f s zero = refl
blank-total f s (suc n) = let rest = blank-total f s n in omega arith

-- the rows at the places count what the rows of the list do
pub listed-total : (f : Row → ℕ) (s : List ℕ) (table : List Row) (es : List Entry) → rows_fault table es ≡ None → T (not (repeats (numbers es))) → ((k : ℕ) (e : Entry) → slice_get es k ≡ Some e → read_row (read_at s e.offset) ≡ Some e.row) → total (weigh f) (given_by s (places_by (blank (length table)) es)) ≡ total f (rows_of es)
listed-total f s table es h once stand =
    let all = places-total f s table (blank (length table)) es (length-replicate (length table) None) h once (λ n m. blank-at (length table) n) stand in
    omega (arith, blank-total f s (length table))
