-- What comes of a list that is read record by record.
use Rattle.std.proofs.Common.{◌≡◌, ℕ, zero, suc, ◌-◌, ◌≤◌, List, [], ◌∷◌, length, Some, None, Ok, Err, Option, Result, MatchOption, sym, refl, ap, ◌∙◌, arith}
use Rattle.packed_layout.specs.declared.faults.FaultAt.{FaultAt}
use Rattle.packed_layout.specs.Records.{Read, entries, broken, also}
use Rattle.packed_layout.specs.Layout.{Entry, read_all}
use Rattle.packed.specs.Views.{read_at}
use Rattle.packed.proofs.Offsets.{past}
use Rattle.packed.proofs.Reading.{from, from_some, from-err, from-none, further}
use Rattle.packed.specs.declared.view.RowView.{RowView}
use Rattle.std.specs.Result.{result_ok}
use Rattle.packed_rows.specs.Entries.{outcomes_in, outcomes, outcome_in, entry_in, before_fault, gathered, readable}

-- one step, by what stands at the offset
abbrev pub step : ℕ → List ℕ → Result (Option (Entry × ℕ)) FaultAt → List (Result Entry FaultAt)
step most s r = elim r [ Err at ↦ Err at ∷ [] | Ok o ↦ elim o [ None ↦ [] | Some p ↦ Ok p.0 ∷ outcomes_in most s p.1 ] ]

none-past : (n : ℕ) (s : List ℕ) (o : ℕ) → length s ≤ o → outcomes_in n s o ≡ []
none-past zero s o h = refl
none-past (suc n) s o h = ap (step n s) (past s o h)

-- more steps than there are bytes change nothing
enough : (n m : ℕ) (s : List ℕ) (o : ℕ) → length s - o ≤ n → length s - o ≤ m → outcomes_in n s o ≡ outcomes_in m s o
enough zero m s o a b = sym (none-past m s o (omega arith))
enough (suc n) zero s o a b = none-past (suc n) s o (omega arith)
enough (suc n) (suc m) s o a b = same (read_at s o) refl (enough n m s)
  where
    same : (r : Result (Option (Entry × ℕ)) FaultAt) → read_at s o ≡ r → ((k : ℕ) → length s - k ≤ n → length s - k ≤ m → outcomes_in n s k ≡ outcomes_in m s k) → step n s r ≡ step m s r
    same (Err at) e ih = refl
    same (Ok None) e ih = refl
    same (Ok (Some p)) e ih =
        let on = further p.0 s o p.1 (sym e) in
        ap {B = List (Result Entry FaultAt)} (λ xs. Ok p.0 ∷ xs) (ih p.1 (omega (arith, on.0, on.1)) (omega (arith, on.0, on.1)))

pub coming-some : (s : List ℕ) (o : ℕ) (e : Entry) (next : ℕ) → Ok (Some (e, next)) ≡ read_at s o → outcomes s o ≡ Ok e ∷ outcomes s next
coming-some s o e next p =
    let on = further e s o next p in
    let n = length s - o - 1 in
    let fuel : length s - o ≡ suc n = omega (arith, on.0) in
    ap (λ k. outcomes_in k s o) fuel ∙ ap (step n s) (sym p) ∙ ap {B = List (Result Entry FaultAt)} (λ xs. Ok e ∷ xs) (enough n (length s - next) s next (omega (arith, on.0, on.1)) (omega arith))

none-by : (n : ℕ) (s : List ℕ) (o : ℕ) → Ok None ≡ read_at s o → outcomes_in n s o ≡ []
none-by zero s o p = refl
none-by (suc n) s o p = ap (step n s) (sym p)

-- nothing comes where nothing is read
pub coming-none : (s : List ℕ) (o : ℕ) → Ok None ≡ read_at s o → readable s o ≡ []
coming-none s o p = ap before_fault (none-by (length s - o) s o p)

err-by : (n : ℕ) (s : List ℕ) (o : ℕ) (a : FaultAt) → Err a ≡ read_at s o → before_fault (outcomes_in n s o) ≡ []
err-by zero s o a p = refl
err-by (suc n) s o a p = ap (λ (r : Result (Option (Entry × ℕ)) FaultAt). before_fault (step n s r)) (sym p)

-- nor where a record is refused
pub coming-err : (s : List ℕ) (o : ℕ) (a : FaultAt) → Err a ≡ read_at s o → readable s o ≡ []
coming-err s o a p = err-by (length s - o) s o a p

-- there are at most as many as steps
few-in : (n : ℕ) (s : List ℕ) (o : ℕ) → length (outcomes_in n s o) ≤ n
few-in zero s o = omega arith
few-in (suc n) s o = by (read_at s o) (few-in n s)
  where
    by : (r : Result (Option (Entry × ℕ)) FaultAt) → ((k : ℕ) → length (outcomes_in n s k) ≤ n) → length (step n s r) ≤ suc n
    by (Err a) ih = omega arith
    by (Ok None) ih = omega arith
    by (Ok (Some p)) ih = omega (arith, ih p.1)

pub few : (s : List ℕ) → length (outcomes s 0) ≤ length s
few s = omega (arith, few-in (length s - 0) s 0)

pub fewer : (rs : List (Result Entry FaultAt)) → length (before_fault rs) ≤ length rs
fewer [] = omega arith
fewer (Ok e ∷ rs) = omega (arith, fewer rs)
fewer (Err a ∷ rs) = omega arith

-- the outcomes make the list
gathered-by : (n : ℕ) (s : List ℕ) (o : ℕ) → gathered (outcomes_in n s o) ≡ from n s o
gathered-by zero s o = refl
gathered-by (suc n) s o = by (read_at s o) refl (gathered-by n s)
  where
    by : (r : Result (Option (Entry × ℕ)) FaultAt) → read_at s o ≡ r → ((k : ℕ) → gathered (outcomes_in n s k) ≡ from n s k) → gathered (step n s r) ≡ from (suc n) s o
    by (Err a) e ih = sym (from-err n s o a (sym e))
    by (Ok None) e ih = sym (from-none (suc n) s o (sym e))
    by (Ok (Some p)) e ih = ap (also p.0) (ih p.1) ∙ sym (from_some n s o p.0 p.1 (sym e))

pub gathered-all : (s : List ℕ) → gathered (outcomes s 0) ≡ read_all s
gathered-all s = let all : length s - 0 ≡ length s = omega arith in gathered-by (length s - 0) s 0 ∙ ap (λ n. from n s 0) all

-- what makes a list comes whole
pub whole : (rs : List (Result Entry FaultAt)) (es : List Entry) → gathered rs ≡ entries es → before_fault rs ≡ es
whole [] es h = cc
whole (Err a ∷ rs) es h = cc
whole (Ok e ∷ rs) es h = by (gathered rs) (whole rs) h
  where
    by : (q : Read Entry) → ((fs : List Entry) → q ≡ entries fs → before_fault rs ≡ fs) → also e q ≡ entries es → e ∷ before_fault rs ≡ es
    by (broken a) ih h = cc
    by (entries fs) ih h = let same = ih fs refl in cc

pub coming-all : (s : List ℕ) (es : List Entry) → read_all s ≡ entries es → readable s 0 ≡ es
coming-all s es h = whole (outcomes s 0) es (gathered-all s ∙ h)

-- nothing comes after a fault
last-by : (n : ℕ) (s : List ℕ) (o : ℕ) (a : FaultAt) (more : List (Result Entry FaultAt)) → outcomes_in n s o ≡ Err a ∷ more → more ≡ []
last-by zero s o a more e = cc
last-by (suc n) s o a more e = by (read_at s o) e
  where
    by : (r : Result (Option (Entry × ℕ)) FaultAt) → step n s r ≡ Err a ∷ more → more ≡ []
    by (Err b) e = cc
    by (Ok None) e = cc
    by (Ok (Some p)) e = cc

-- the rows that are left, by what comes next
pub coming-by : (s : List ℕ) (o : ℕ) (r : Result (ℕ × RowView) FaultAt) (more : List (Result Entry FaultAt)) → outcomes s o ≡ outcome_in r ∷ more → MatchOption (result_ok r) ((readable s o ≡ []) × (before_fault more ≡ [])) (λ p. readable s o ≡ entry_in p ∷ before_fault more)
coming-by s o (Ok p) more e = ap before_fault e
coming-by s o (Err a) more e = (ap before_fault e, ap before_fault (last-by (length s - o) s o a more e))
