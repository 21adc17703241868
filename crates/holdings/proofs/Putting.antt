-- Rows that are put at once, and one by one.
use Rattle.std.proofs.Common.{◌≡◌, ℕ, ◌+◌, ◌<◌, ◌≤◌, Bool, true, false, cond, ◌&&◌, eqb, List, [], ◌∷◌, length, get_or, drop, Some, sym, refl, ap, ◌∙◌, ⊎_elim, arith}
use mathlib.Core.Path.{fun_ext}
use Rattle.std.specs.List.{list_any}
use Rattle.std.proofs.lemmas.Bool.Decides.{nat_tests}
use Rattle.std.proofs.lemmas.List.{at_drop_more}
use Rattle.std.proofs.lemmas.List.Sums.{sum_by-cons}
use Rattle.std.proofs.lemmas.Bool.{or_parts, cases_Bool}
use Rattle.holdings.specs.Maps.{Map, changed, one, size}
use Rattle.holdings.specs.Stores.{Store, put, takes}
use Rattle.holdings.specs.Puts.{put_all, put_each, is_absent, absent, rows_in_range, takes_all, takes_each, repeats, OneByOne}
use Rattle.holdings.proofs.Sizes.{size-changed}

-- ---- the store

put_all-none : (s : Store) (tablet : ℕ) (stamp : ℕ → ℕ) → put_all s tablet [] stamp ≡ s
put_all-none s tablet stamp = ap (λ m. record { held = m; most = s.most }) (fun_ext λ t. fun_ext λ r. grind (arith, nat_tests))

put_all-more : (s : Store) (tablet row : ℕ) (rows : List ℕ) (stamp : ℕ → ℕ) → put_all (put s tablet row (stamp row)) tablet rows stamp ≡ put_all s tablet (row ∷ rows) stamp
unfolding changed
put_all-more s tablet row rows stamp = ap (λ m. record { held = m; most = s.most }) (fun_ext λ t. fun_ext λ r. grind (arith, nat_tests))

pub each-is-all : (s : Store) (tablet : ℕ) (rows : List ℕ) (stamp : ℕ → ℕ) → put_each s tablet rows stamp ≡ put_all s tablet rows stamp
each-is-all s tablet [] stamp = sym (put_all-none s tablet stamp)
each-is-all s tablet (row ∷ rows) stamp = each-is-all (put s tablet row (stamp row)) tablet rows stamp ∙ put_all-more s tablet row rows stamp

-- ---- how many rows are absent

-- 1 for a row that is absent, else 0
abbrev pub absence : Map → ℕ → ℕ → ℕ
absence m t row = cond (is_absent m t row) 1 0

pub absent_none : (m : Map) (t : ℕ) → absent m t [] ≡ 0
absent_none m t = refl

pub absent-cons : (m : Map) (t row : ℕ) (rows : List ℕ) → absent m t (row ∷ rows) ≡ absence m t row + absent m t rows
absent-cons m t row rows = sum_by-cons (absence m t) row rows

-- a row is either held or absent
pub absence-held : (m : Map) (t row : ℕ) → absence m t row + one (m t row) ≡ 1
absence-held m t row = grind (arith, nat_tests)

absent-put-le : (s : Store) (t row stamp : ℕ) (rows : List ℕ) → absent (put s t row stamp).held t rows ≤ absent s.held t rows
unfolding changed
absent-put-le s t row stamp [] = omega arith
absent-put-le s t row stamp (x ∷ rows) =
    grind (arith, nat_tests, absent-cons s.held t x rows, absent-cons (put s t row stamp).held t x rows, absent-put-le s t row stamp rows)

absent-put : (s : Store) (t row stamp : ℕ) (rows : List ℕ) → list_any (eqb row) rows ≡ false → absent (put s t row stamp).held t rows ≡ absent s.held t rows
unfolding changed
absent-put s t row stamp [] new = refl
absent-put s t row stamp (x ∷ rows) new =
    grind (arith, nat_tests, absent-cons s.held t x rows, absent-cons (put s t row stamp).held t x rows, absent-put s t row stamp rows)

-- ---- whether a list is taken

pub taken-parts : (s : Store) (t : ℕ) (rows : List ℕ) → takes_all s t rows ≡ true → (t < 16) × (rows_in_range rows ≡ true) × (size s.held + absent s.held t rows ≤ s.most)
taken-parts s t rows taken = grind (arith, nat_tests)

pub taken-from : (s : Store) (t : ℕ) (rows : List ℕ) → t < 16 → rows_in_range rows ≡ true → size s.held + absent s.held t rows ≤ s.most → takes_all s t rows ≡ true
taken-from s t rows tl range room = grind (arith, nat_tests)

module _ (s : Store) (t row stamp : ℕ) (rows : List ℕ) where
  -- a row that is put is one more, unless it was held
  sized : t < 16 → row < 4096 → size (put s t row stamp).held + one (s.held t row) ≡ size s.held + 1
  sized = size-changed s.held t row (Some stamp)

  -- a row is taken, where there is room for it and for the others after it
  pub takes_first : t < 16 → row < 4096 → size s.held + (absence s.held t row + absent s.held t rows) ≤ s.most → takes s t row ≡ true
  takes_first tl rl room = grind (arith, nat_tests)

  -- the first of a list that is taken is taken, and so are the others after it
  pub taken_more : takes_all s t (row ∷ rows) ≡ true → (takes s t row ≡ true) × (takes_all (put s t row stamp) t rows ≡ true)
  taken_more taken = (
    grind (arith, nat_tests, absent-cons s.held t row rows),
    grind (arith, nat_tests, sized, absent-cons s.held t row rows, absent-put-le s t row stamp rows),
  )

  -- and the way back, where the first is not named again
  judged-more : takes s t row ≡ true → list_any (eqb row) rows ≡ false → takes_all s t (row ∷ rows) ≡ takes_all (put s t row stamp) t rows
  judged-more first new = grind (arith, nat_tests, sized, absent-cons s.held t row rows, absent-put s t row stamp rows new)

  pub taken_back : takes s t row ≡ true → list_any (eqb row) rows ≡ false → takes_all (put s t row stamp) t rows ≡ true → takes_all s t (row ∷ rows) ≡ true
  taken_back first new taken = judged-more first new ∙ taken

-- a list that names no row twice is taken just if each of its rows is
judged-each : (s : Store) (t : ℕ) (rows : List ℕ) (stamp : ℕ → ℕ) → size s.held ≤ s.most → t < 16 → repeats rows ≡ false → takes_all s t rows ≡ takes_each s t rows stamp
judged-each s t [] stamp fits tl once = grind (arith, nat_tests)
judged-each s t (row ∷ rows) stamp fits tl once =
    let next = put s t row (stamp row) in
    let parts = or_parts (list_any (eqb row) rows) (repeats rows) once in
    ⊎_elim
    (λ first. let kept : size next.held ≤ s.most = grind (arith, nat_tests, sized s t row (stamp row) rows) in
    judged-more s t row (stamp row) rows first parts.0 ∙ judged-each next t rows stamp kept tl parts.1 ∙ sym (ap (λ b. b && takes_each next t rows stamp) first))
    (λ none. grind (arith, nat_tests, taken_more s t row (stamp row) rows))
    (cases_Bool (takes s t row))

-- a list that is put just where it is taken, and then leaves what its rows leave
pub one_by_one : (s : Store) (t : ℕ) (rows : List ℕ) (stamp : ℕ → ℕ) (done : Bool) (left : Store) → size s.held ≤ s.most → done ≡ takes_all s t rows → (done ≡ true → left ≡ put_each s t rows stamp) → OneByOne s t rows stamp done left
one_by_one s t rows stamp done left fits same each = record { leaves = each; judged = λ tl once. same ∙ judged-each s t rows stamp fits tl once }

-- ---- a step of putting them one by one

module _ (s : Store) (t : ℕ) (rows : List ℕ) (stamp : ℕ → ℕ) (i : ℕ) (l : i < length rows) where
  pub put_each-drop : put_each s t (drop i rows) stamp ≡ put_each (put s t (get_or rows i 0) (stamp (get_or rows i 0))) t (drop (i + 1) rows) stamp
  put_each-drop = at_drop_more (λ xs. put_each s t xs stamp) rows i 0 l

  pub taken-drop : takes_all s t (drop i rows) ≡ true → takes_all (put s t (get_or rows i 0) (stamp (get_or rows i 0))) t (drop (i + 1) rows) ≡ true
  taken-drop taken = (taken_more s t (get_or rows i 0) (stamp (get_or rows i 0)) (drop (i + 1) rows) (sym (at_drop_more (takes_all s t) rows i 0 l) ∙ taken)).1
