-- One row placed into a table, and then many.
use Rattle.std.proofs.Common.{◌≡◌, ℕ, zero, suc, ◌+◌, ◌-◌, ◌<◌, ◌≤◌, true, false, cond, not, ◌&&◌, T, eqb, ltb, leb, List, [], ◌∷◌, ◌++◌, length, get_or, set, None, sym, refl, ap, ◌∙◌, subst, inl, inr, ⊎_elim, arith, ltb→lt, nltb→le, T_not, length-append, length-set}
use lib.Dec.{eqb_refl, nleb→lt, not_T}
use Rattle.std.proofs.lemmas.List.{get_or-set_same, get_or-set_other, get_or_append_left, get_or-append_right, get_or_past, length_push, append-nil, append_assoc}
use Rattle.std.proofs.lemmas.Bool.{cases_eq, cases_lt, lt-ltb, le-ltb, and_parts}
use Rattle.rows.specs.Numbers.{any, member, repeats, total}
use Rattle.std.specs.Str.{bytes_eq}
use Rattle.packed_layout.specs.declared.faults.RowFault.TheVariants.{OutOfTurn, NameClash}
use Rattle.rows.specs.Rows.{Row, at, nowhere, targets, is_any}
use Rattle.packed_layout.specs.Layout.{Entry}
use Rattle.project.specs.Rescan.{placed, merged, keeps, same_sort, taken, clashes, rows_fault, numbers, dangling, rows_of}
use Rattle.project.specs.Projects.{Apart, limited, Limited}
use Rattle.rows.proofs.Tests.{both, both-not, passed, indeed, any_at, at-any}
use Rattle.rows.proofs.Rows.{same_lists, lists-same, same-sorts}
use Rattle.project.proofs.Limits.{AllLimited}

-- what the tests of one row tell
pub record Tested (table : List Row) (e : Entry) : Type 0 where
  pub near : e.number ≤ length table
  pub id : e.number < length table → e.row.id ≡ (at table e.number).id
  pub stable_id : e.number < length table → e.row.stable_id ≡ (at table e.number).stable_id
  pub sort : e.number < length table → e.row.sort ≡ (at table e.number).sort
  pub own_id : e.number ≡ length table → (p : ℕ) → p < length table → (at table p).id ≡ e.row.id → ⊥
  pub own_stable_id : e.number ≡ length table → (p : ℕ) → p < length table → (at table p).stable_id ≡ e.row.stable_id → ⊥

-- no row of the table has the name
free : (name : Row → List ℕ) (table : List Row) (own : List ℕ) → T (not (any (λ (q : Row). bytes_eq (name q) own) table)) → (p : ℕ) → p < length table → T (not (bytes_eq (name (at table p)) own))
free name [] own t p h = absurd (omega arith)
free name (x ∷ xs) own t zero h = (both-not (bytes_eq (name x) own) _ t).0
free name (x ∷ xs) own t (suc p) h = free name xs own (both-not (bytes_eq (name x) own) _ t).1 p (omega arith)

tested : (table : List Row) (e : Entry) → T (not (ltb (length table) e.number)) → T (not (clashes table e)) → Tested table e
tested table e n t = record {
  near = nltb→le (length table) e.number n;
  id = λ h. sym (same_lists old.id e.row.id (kept h).0);
  stable_id = λ h. sym (same_lists old.stable_id e.row.stable_id (both (bytes_eq old.stable_id e.row.stable_id) _ (kept h).1).0);
  sort = λ h. sym (same-sorts old.sort e.row.sort (both (bytes_eq old.stable_id e.row.stable_id) _ (kept h).1).1);
  own_id = λ h p l k. T_not _ (free (λ q. q.id) table e.row.id (unused h).0 p l) (lists-same (at table p).id e.row.id k);
  own_stable_id = λ h p l k. T_not _ (free (λ q. q.stable_id) table e.row.stable_id (unused h).1 p l) (lists-same (at table p).stable_id e.row.stable_id k);
}
  where
    old : Row
    old = at table e.number

    kept : e.number < length table → T (bytes_eq old.id e.row.id) × T (bytes_eq old.stable_id e.row.stable_id && same_sort old e.row)
    kept h = both (bytes_eq old.id e.row.id) _ (indeed (keeps old e.row) (subst (λ x. T (not (cond x (not (keeps old e.row)) (taken table e.row)))) (lt-ltb e.number (length table) h) t))

    unused : e.number ≡ length table → T (not (any (λ (q : Row). bytes_eq q.id e.row.id) table)) × T (not (any (λ (q : Row). bytes_eq q.stable_id e.row.stable_id) table))
    unused h = both-not (any (λ (q : Row). bytes_eq q.id e.row.id) table) _ (subst (λ x. T (not (cond x (not (keeps old e.row)) (taken table e.row)))) (le-ltb e.number (length table) (omega arith)) t)

pub tests : (table : List Row) (e : Entry) (es : List Entry) → rows_fault table (e ∷ es) ≡ None → Tested table e × (rows_fault (placed table e) es ≡ None)
tests table e es h =
    let p = passed (ltb (length table) e.number) (OutOfTurn e.offset) _ h in
    let q = passed (clashes table e) (NameClash e.offset) _ p.1 in
    (tested table e p.0 q.0, q.1)

-- the table with the row in it: at its number the row, elsewhere what was there
module _ (table : List Row) (e : Entry) (near : e.number ≤ length table) where
  replaced : e.number < length table → placed table e ≡ set table e.number e.row
  replaced h = ap (λ x. cond x (set table e.number e.row) (table ++ e.row ∷ [])) (lt-ltb e.number (length table) h)

  added : length table ≤ e.number → placed table e ≡ table ++ e.row ∷ []
  added h = ap (λ x. cond x (set table e.number e.row) (table ++ e.row ∷ [])) (le-ltb e.number (length table) h)

  pub here : at (placed table e) e.number ≡ e.row
  here = ⊎_elim old new (cases_lt e.number (length table))
    where
      old : e.number < length table → at (placed table e) e.number ≡ e.row
      old h = ap (λ t. at t e.number) (replaced h) ∙ get_or-set_same table e.number e.row nowhere h

      new : length table ≤ e.number → at (placed table e) e.number ≡ e.row
      new h = let first : e.number - e.number ≡ 0 = omega arith in ap (λ t. at t e.number) (added h) ∙ get_or-append_right table (e.row ∷ []) e.number e.number nowhere (omega arith) (omega arith) ∙ ap (λ k. get_or (e.row ∷ []) k nowhere) first

  pub there : (r : ℕ) → (r ≡ e.number → ⊥) → at (placed table e) r ≡ at table r
  there r other = ⊎_elim old new (cases_lt e.number (length table))
    where
      old : e.number < length table → at (placed table e) r ≡ at table r
      old h = ap (λ t. at t r) (replaced h) ∙ get_or-set_other table e.number r e.row nowhere other

      past : length table ≤ e.number → length table ≤ r → length (table ++ e.row ∷ []) ≤ r
      past h l = omega (arith, length-append table (e.row ∷ []), other)

      new : length table ≤ e.number → at (placed table e) r ≡ at table r
      new h = ap (λ t. at t r) (added h) ∙ ⊎_elim (λ l. get_or_append_left table (e.row ∷ []) nowhere r l) (λ l. get_or_past (table ++ e.row ∷ []) r nowhere (past h l) ∙ sym (get_or_past table r nowhere l)) (cases_lt r (length table))

  pub placed-longer : length table ≤ length (placed table e)
  placed-longer = ⊎_elim (λ h. subst (λ t. length table ≤ length t) (sym (replaced h)) (omega (arith, length-set table e.number e.row))) (λ h. subst (λ t. length table ≤ length t) (sym (added h)) (omega (arith, length-append table (e.row ∷ [])))) (cases_lt e.number (length table))

  pub was-there : (r : ℕ) → r < length (placed table e) → (r ≡ e.number → ⊥) → r < length table
  was-there r l other = ⊎_elim (λ h. let k : r < length (set table e.number e.row) = subst (λ t. r < length t) (replaced h) l in omega (arith, length-set table e.number e.row)) (λ h. let k : r < length (table ++ e.row ∷ []) = subst (λ t. r < length t) (added h) l in omega (arith, length-append table (e.row ∷ []), other)) (cases_lt e.number (length table))

pub merged-longer : (table : List Row) (es : List Entry) → rows_fault table es ≡ None → length table ≤ length (merged table es)
merged-longer table [] h = omega arith
merged-longer table (e ∷ es) h = let t = tests table e es h in let one = placed-longer table e t.0.near in let more = merged-longer (placed table e) es t.1 in omega arith

-- what a row keeps
module _ {A : Type 0} (f : Row → A) (kept : (table : List Row) (e : Entry) → Tested table e → e.number < length table → f e.row ≡ f (at table e.number)) where
  placed-keeps : (table : List Row) (e : Entry) → Tested table e → (r : ℕ) → r < length table → f (at (placed table e) r) ≡ f (at table r)
  placed-keeps table e t r h = ⊎_elim (λ k. subst (λ q. f (at (placed table e) q) ≡ f (at table q)) (sym k) (ap f (here table e t.near) ∙ kept table e t (subst (λ q. q < length table) k h))) (λ k. ap f (there table e t.near r k)) (cases_eq r e.number)

  pub merged_keeps : (table : List Row) (es : List Entry) → rows_fault table es ≡ None → (r : ℕ) → r < length table → f (at (merged table es) r) ≡ f (at table r)
  merged_keeps table [] h r l = refl
  merged_keeps table (e ∷ es) h r l = let t = tests table e es h in let longer = placed-longer table e t.0.near in merged_keeps (placed table e) es t.1 r (omega arith) ∙ placed-keeps table e t.0 r l

-- names that are apart
module _ (name : Row → List ℕ)
    (kept : (table : List Row) (e : Entry) → Tested table e → e.number < length table → name e.row ≡ name (at table e.number))
    (own : (table : List Row) (e : Entry) → Tested table e → e.number ≡ length table → (p : ℕ) → p < length table → name (at table p) ≡ name e.row → ⊥) where
  not-its : (table : List Row) (e : Entry) → Tested table e → Apart name table → (q : ℕ) → q < length table → (q ≡ e.number → ⊥) → name (at table q) ≡ name e.row → ⊥
  not-its table e t apart q h other k = ⊎_elim (λ l. other (apart q e.number h l (k ∙ kept table e t l))) (λ l. let n = t.near in own table e t (omega arith) q h k) (cases_lt e.number (length table))

  placed-apart : (table : List Row) (e : Entry) → Tested table e → Apart name table → Apart name (placed table e)
  placed-apart table e t apart p q hp hq k = elim (cases_eq p e.number) [
    | inl a ↦ elim (cases_eq q e.number) [ inl b ↦ a ∙ sym b | inr b ↦ absurd (not-its table e t apart q (was-there table e t.near q hq b) b (sym (other q b) ∙ sym k ∙ its p a)) ]
    | inr a ↦ elim (cases_eq q e.number) [ inl b ↦ absurd (not-its table e t apart p (was-there table e t.near p hp a) a (sym (other p a) ∙ k ∙ its q b)) | inr b ↦ apart p q (was-there table e t.near p hp a) (was-there table e t.near q hq b) (sym (other p a) ∙ k ∙ other q b) ]
  ]
    where
      its : (r : ℕ) → r ≡ e.number → name (at (placed table e) r) ≡ name e.row
      its r i = ap (λ n. name (at (placed table e) n)) i ∙ ap name (here table e t.near)

      other : (r : ℕ) → (r ≡ e.number → ⊥) → name (at (placed table e) r) ≡ name (at table r)
      other r i = ap name (there table e t.near r i)

  pub merged-apart : (table : List Row) (es : List Entry) → rows_fault table es ≡ None → Apart name table → Apart name (merged table es)
  merged-apart table [] h apart = apart
  merged-apart table (e ∷ es) h apart = let t = tests table e es h in merged-apart (placed table e) es t.1 (placed-apart table e t.0 apart)

-- sums over the rows
module _ (f : Row → ℕ) where
  set-total : (table : List Row) (n : ℕ) (row : Row) → total f (set table n row) ≤ total f table + f row
  set-total [] n row = omega arith
  set-total (x ∷ xs) zero row = omega arith
  set-total (x ∷ xs) (suc n) row = let h = set-total xs n row in omega arith

  append-total : (table : List Row) (row : Row) → total f (table ++ row ∷ []) ≤ total f table + f row
  append-total [] row = omega arith
  append-total (x ∷ xs) row = let h = append-total xs row in omega arith

  placed_total : (table : List Row) (e : Entry) → total f (placed table e) ≤ total f table + f e.row
  placed_total table e = elim (ltb e.number (length table)) as (λ x. total f (cond x (set table e.number e.row) (table ++ e.row ∷ [])) ≤ total f table + f e.row) [ true ↦ set-total table e.number e.row | false ↦ append-total table e.row ]

  pub merged-total : (table : List Row) (es : List Entry) → total f (merged table es) ≤ total f table + total f (rows_of es)
  merged-total table [] = omega arith
  merged-total table (e ∷ es) = let one = placed_total table e in let more = merged-total (placed table e) es in omega arith

-- links below a count
abbrev pub LinkedBelow : ℕ → List Row → Type 0
LinkedBelow count table = (r t : ℕ) → T (member t (targets is_any (at table r))) → t < count

row-linked : (count : ℕ) (row : Row) → T (not (dangling count row)) → (t : ℕ) → T (member t (targets is_any row)) → t < count
row-linked count row none t m = nleb→lt count t (not_T (leb count t) (λ past. T_not (dangling count row) none (any_at (λ u. leb count u) (targets is_any row) t m past)))

pub merged-linked : (count : ℕ) (table : List Row) (es : List Entry) → rows_fault table es ≡ None → LinkedBelow count table → T (not (any (dangling count) (rows_of es))) → LinkedBelow count (merged table es)
merged-linked count table [] h linked none = linked
merged-linked count table (e ∷ es) h linked none =
    let t = tests table e es h in
    let n = both-not (dangling count e.row) _ none in
    merged-linked count (placed table e) es t.1 (λ r u m. ⊎_elim (λ k. row-linked count e.row n.0 u (subst (λ row. T (member u (targets is_any row))) (ap (λ q. at (placed table e) q) k ∙ here table e t.0.near) m)) (λ k. linked r u (subst (λ row. T (member u (targets is_any row))) (there table e t.0.near r k) m)) (cases_eq r e.number)) n.1

-- the rows that are not among those placed
pub merged-others : (table : List Row) (es : List Entry) → rows_fault table es ≡ None → (r : ℕ) → T (not (member r (numbers es))) → at (merged table es) r ≡ at table r
merged-others table [] h r none = refl
merged-others table (e ∷ es) h r none =
    let t = tests table e es h in
    let n = both-not (eqb r e.number) _ none in
    merged-others (placed table e) es t.1 r n.1 ∙ there table e t.0.near r (λ k. T_not (eqb r e.number) n.0 (subst (λ q. T (eqb r q)) k (eqb_refl r)))

-- every row is as the layout allows it
pub merged-limited : (table : List Row) (es : List Entry) → rows_fault table es ≡ None → Limited table → AllLimited es → Limited (merged table es)
merged-limited table [] h each all = each
merged-limited table (e ∷ es) h each all =
    let t = tests table e es h in
    let a = and_parts (limited e.row) _ all in
    merged-limited (placed table e) es t.1 (λ r l. ⊎_elim (λ k. subst (λ row. limited row ≡ true) (sym (ap (λ q. at (placed table e) q) k ∙ here table e t.0.near)) a.0) (λ k. subst (λ row. limited row ≡ true) (sym (there table e t.0.near r k)) (each r (was-there table e t.0.near r l k))) (cases_eq r e.number)) a.1

-- rows that are all new follow in their order
pub merged-new : (table : List Row) (es : List Entry) → rows_fault table es ≡ None → T (not (any (λ n. ltb n (length table)) (numbers es))) → T (not (repeats (numbers es))) → merged table es ≡ table ++ rows_of es
merged-new table [] h new once = sym (append-nil table)
merged-new table (e ∷ es) h new once =
    let t = tests table e es h in
    let n = both-not (ltb e.number (length table)) _ new in
    let o = both-not (member e.number (numbers es)) _ once in
    let past : length table ≤ e.number = nltb→le e.number (length table) n.0 in
    let is : e.number ≡ length table = (let near = t.0.near in omega arith) in
    let grown : placed table e ≡ table ++ e.row ∷ [] = added table e t.0.near past in
    let long : length (placed table e) ≡ length table + 1 = ap length grown ∙ length_push table e.row in
    let rest = merged-new (placed table e) es t.1 (not_T (any (λ k. ltb k (length (placed table e))) (numbers es)) (λ some. later (numbers es) e.number (length table) (length (placed table e)) is long n.1 o.0 some)) o.1 in
    rest ∙ ap (λ (z : List Row). z ++ rows_of es) grown ∙ append_assoc table (e.row ∷ []) (rows_of es)
  where
    later : (ns : List ℕ) (k count more : ℕ) → k ≡ count → more ≡ count + 1 → T (not (any (λ n. ltb n count) ns)) → T (not (member k ns)) → T (any (λ n. ltb n more) ns) → ⊥
    later ns k count more is long none other some =
        let p = at-any (λ n. ltb n more) ns some in
        let low : p.0 < more = ltb→lt p.0 more p.2 in
        let high : count ≤ p.0 = nltb→le p.0 count (not_T (ltb p.0 count) (λ l. T_not (any (λ n. ltb n count) ns) none (any_at (λ n. ltb n count) ns p.0 p.1 l))) in
        let same : p.0 ≡ k = omega arith in
        T_not (member k ns) other (subst (λ q. T (member q ns)) same p.1)
