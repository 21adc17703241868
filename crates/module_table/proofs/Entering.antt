-- One row of a list: what is answered for it, and what becomes of the orders.
use Rattle.std.proofs.Common.{◌≡◌, ℕ, zero, suc, ◌<◌, ◌≤◌, Bool, true, false, cond, not, ◌||◌, List, [], ◌∷◌, ◌++◌, map, length, ltb, set, is_some, is_ok, OnOk, Some, Ok, Err, Option, Result, sym, refl, ap, ◌∙◌, subst, arith}
use Rattle.std.specs.Str.{bytes_eq}
use Rattle.std.proofs.lemmas.Slice.Eq.{bytes_eq-Decides}
use Rattle.std.proofs.lemmas.List.{map_push, length-map}
use Rattle.std.proofs.lemmas.Bool.{cond-true, cond-false, lt-ltb, le-ltb, and_parts, false≢true}
use Rattle.rows.specs.Numbers.{any}
use Rattle.rows.specs.Rows.{Row, at}
use Rattle.packed_layout.specs.declared.faults.RowFault.TheVariants.{NameClash}
use Rattle.packed_layout.specs.Layout.{Entry}
use Rattle.name_order.specs.declared.Taken.{Taken}
use Rattle.name_order.specs.Listed.{taken as taken-answer}
use Rattle.name_order.specs.Orders.{number_of, ordered, IsOrder}
use Rattle.name_order.proofs.Numbering.{number-tells, none_is}
use Rattle.name_order.proofs.Placing.{order-push}
use Rattle.project.specs.Rescan.{placed, keeps, taken, clashes}
use Rattle.module_table.specs.declared.overlay.NameKind.{NameKind}
use Rattle.module_table.specs.declared.overlay.NameKind.TheVariants.{Id, StableId}
use Rattle.module_table.specs.Names.{name_of, names_of}
use Rattle.module_table.specs.Drafts.{placing}
use Rattle.module_table.specs.Judged.{InOrder, row_judged}
use Rattle.module_table.proofs.Passing.{any-map}

-- what holds of a result that is `Ok`
pub on_ok : {X Y P : Type 0} (r : Result X Y) → (is_ok r ≡ true → P) → OnOk r P
on_ok (Ok x) f = f refl
on_ok (Err y) f = tt

pub at_ok : {X Y P : Type 0} (r : Result X Y) → is_ok r ≡ true → OnOk r P → P
at_ok (Ok x) good h = h
at_ok (Err y) good h = absurd (false≢true good)

-- whether a name is taken, by the number of the row that has it
has : (kind : NameKind) (rows : List Row) (name : List ℕ) → is_some (number_of name (names_of kind rows)) ≡ any (λ (q : Row). bytes_eq (name_of kind q) name) rows
has kind rows name = number-tells name (names_of kind rows) ∙ any-map (λ n. bytes_eq n name) (name_of kind) rows

answered : (t : Bool) (r : Result (Unit {0}) Taken) → r ≡ cond t (Err taken-answer) (Ok tt) → is_ok r ≡ not t
answered true r e = ap is_ok e
answered false r e = ap is_ok e

flips : (a b : Bool) → a ≡ not b → b ≡ not a
flips a true e = ap not (sym e)
flips a false e = ap not (sym e)

-- an order of some names of the rows, with the next row in it
pub entered_by : (f : Row → List ℕ) (rows : List Row) (row : Row) (xs ys : List ℕ) (r : Result (Unit {0}) Taken) → IsOrder (map f rows) xs → r ≡ cond (is_some (number_of (f row) (map f rows))) (Err taken-answer) (Ok tt) → is_ok r ≡ true → ys ≡ cond (is_ok r) (ordered (map f rows ++ f row ∷ [])) xs → IsOrder (map f (rows ++ row ∷ [])) ys
entered_by f rows row xs ys r o e good is =
    let no : is_some (number_of (f row) (map f rows)) ≡ false = flips _ _ (sym good ∙ answered _ r e) in
    subst (λ names. IsOrder names ys) (sym (map_push f rows row)) (order-push (map f rows) (f row) xs ys o (none_is _ no) (is ∙ cond-true _ _ _ good))

module _ (rows : List Row) (row : Row) where
  -- what an order of some names answers for the next row
  abbrev pub Answers : NameKind → Result (Unit {0}) Taken → Type 0
  Answers kind r = r ≡ cond (is_some (number_of (name_of kind row) (names_of kind rows))) (Err taken-answer) (Ok tt)

  told : (kind : NameKind) (r : Result (Unit {0}) Taken) → Answers kind r → is_ok r ≡ not (any (λ (q : Row). bytes_eq (name_of kind q) (name_of kind row)) rows)
  told kind r a = answered _ r a ∙ ap not (has kind rows (name_of kind row))

  -- the id is taken
  pub first_taken : (r : Result (Unit {0}) Taken) → Answers Id r → is_ok r ≡ false → not (taken rows row) ≡ false
  first_taken r a bad = ap (λ b. not (b || any (λ (q : Row). bytes_eq q.stable_id row.stable_id) rows)) (flips _ _ (sym bad ∙ told Id r a))

  -- it is not, so the stable id decides
  pub second-decides : (r q : Result (Unit {0}) Taken) → Answers Id r → is_ok r ≡ true → Answers StableId q → is_ok q ≡ not (taken rows row)
  second-decides r q a good b = told StableId q b ∙ sym (ap (λ x. not (x || any (λ (y : Row). bytes_eq y.stable_id row.stable_id) rows)) (flips _ _ (sym good ∙ told Id r a)))

  -- an order with the next row in it
  pub entered : (kind : NameKind) (xs ys : List ℕ) (r : Result (Unit {0}) Taken) → IsOrder (names_of kind rows) xs → Answers kind r → is_ok r ≡ true → ys ≡ cond (is_ok r) (ordered (names_of kind rows ++ name_of kind row ∷ [])) xs → IsOrder (names_of kind (rows ++ row ∷ [])) ys
  entered kind xs ys r o a good is = entered_by (name_of kind) rows row xs ys r o a good is

  -- the next row's number, by names
  pub next-name : (kind : NameKind) (n : ℕ) → n ≡ length rows → n ≡ length (names_of kind rows)
  next-name kind n e = e ∙ sym (length-map rows (name_of kind))

-- a row that keeps its names keeps the orders
names-set : (kind : NameKind) (rows : List Row) (n : ℕ) (row : Row) → name_of kind (at rows n) ≡ name_of kind row → names_of kind (set rows n row) ≡ names_of kind rows
names-set kind [] n row e = refl
names-set kind (q ∷ rows) zero row e = ap {B = List (List ℕ)} (λ x. x ∷ names_of kind rows) (sym e)
names-set kind (q ∷ rows) (suc n) row e = ap {B = List (List ℕ)} (λ xs. name_of kind q ∷ xs) (names-set kind rows n row e)

-- what is answered for a row that keeps its names, and for the next one
module _ (rows : List Row) (e : Entry) (twice : Bool) where
  pub kept-judged : e.number < length rows → keeps (at rows e.number) e.row ≡ true → Ok twice ≡ row_judged rows twice e
  kept-judged held kept =
      let near : ltb (length rows) e.number ≡ false = le-ltb (length rows) e.number (omega arith) in
      let own : clashes rows e ≡ false = cond-true _ _ _ (lt-ltb e.number (length rows) held) ∙ ap not kept in
      sym (cond-false _ _ _ near ∙ cond-false _ _ _ own)

  module _ (next : e.number ≡ length rows) where
    near : ltb (length rows) e.number ≡ false
    near = le-ltb (length rows) e.number (omega arith)

    own : clashes rows e ≡ taken rows e.row
    own = cond-false _ _ _ (le-ltb e.number (length rows) (omega arith))

    pub new-judged : taken rows e.row ≡ false → Ok twice ≡ row_judged rows twice e
    new-judged free = sym (cond-false _ _ _ near ∙ cond-false _ _ _ (own ∙ free))

    pub new-clash : taken rows e.row ≡ true → Err (NameClash e.offset) ≡ row_judged rows twice e
    new-clash not-free = sym (cond-false _ _ _ near ∙ cond-true _ _ _ (own ∙ not-free))

-- the place of a row
pub placing-held : (places : List (Option ℕ)) (e : Entry) → e.number < length places → set places e.number (Some e.offset) ≡ placing places e
placing-held places e h = sym (cond-true _ _ _ (lt-ltb e.number (length places) h))

pub placing-new : (places : List (Option ℕ)) (e : Entry) → length places ≤ e.number → places ++ Some e.offset ∷ [] ≡ placing places e
placing-new places e h = sym (cond-false _ _ _ (le-ltb e.number (length places) h))

module _ (rows : List Row) (e : Entry) (xs ys : List ℕ) where
  pub kept-orders : e.number < length rows → keeps (at rows e.number) e.row ≡ true → InOrder rows xs ys → InOrder (placed rows e) xs ys
  kept-orders held kept o =
      let is : placed rows e ≡ set rows e.number e.row = cond-true _ _ _ (lt-ltb e.number (length rows) held) in
      let a = and_parts (bytes_eq (at rows e.number).id e.row.id) _ kept in
      let b = and_parts (bytes_eq (at rows e.number).stable_id e.row.stable_id) _ a.1 in
      subst (λ (rs : List Row). InOrder rs xs ys) (sym is) (
        subst (λ names. IsOrder names xs) (sym (names-set Id rows e.number e.row ((bytes_eq-Decides _ _).0 a.0))) o.0,
        subst (λ names. IsOrder names ys) (sym (names-set StableId rows e.number e.row ((bytes_eq-Decides _ _).0 b.0))) o.1,
      )

  pub new-orders : length rows ≤ e.number → InOrder (rows ++ e.row ∷ []) xs ys → InOrder (placed rows e) xs ys
  new-orders next o = subst (λ (rs : List Row). InOrder rs xs ys) (sym (cond-false _ _ _ (le-ltb e.number (length rows) next))) o
