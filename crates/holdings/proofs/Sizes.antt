-- How the size of a map follows a change.
use Rattle.std.proofs.Common.{◌≡◌, ◌≢◌, ℕ, zero, suc, ◌+◌, ◌<◌, ◌≤◌, Some, None, Option, sym, refl, ap, ⊎_elim, arith}
use Rattle.std.proofs.lemmas.Bool.{cases_eq}
use Rattle.std.proofs.lemmas.Bool.Decides.{nat_tests}
use Rattle.holdings.specs.Maps.{Map, nothing, changed, cleared, sum_to, one, size}
use Rattle.holdings.proofs.Changes.{changed-here, changed-tablet, changed-row}

pub sum_same : (v w : ℕ → ℕ) (n : ℕ) → ((k : ℕ) → k < n → v k ≡ w k) → sum_to v n ≡ sum_to w n
unfolding sum_to
sum_same v w zero h = refl
sum_same v w (suc n) h =
    let here = h n (omega arith) in
    let rest = sum_same v w n (λ k l. h k (omega arith)) in
    omega arith

sum-change : (v w : ℕ → ℕ) (k n : ℕ) → k < n → ((j : ℕ) → j ≢ k → v j ≡ w j) → sum_to v n + w k ≡ sum_to w n + v k
unfolding sum_to
sum-change v w k zero l h = omega arith
sum-change v w k (suc n) l h =
    ⊎_elim
    (λ e. let rest = sum_same v w n (λ j m. h j (λ q. omega arith)) in omega (arith, ap v e, ap w e))
    (λ apart. let rest = sum-change v w k n (omega arith) h in let here = h n (λ e. apart (sym e)) in omega arith)
    (cases_eq k n)

sum-none : (w : ℕ → ℕ) (n : ℕ) → ((k : ℕ) → w k ≡ 0) → sum_to w n ≡ 0
unfolding sum_to
sum-none w zero h = refl
sum-none w (suc n) h = let here = h n in let rest = sum-none w n h in omega arith

pub size-nothing : size nothing ≡ 0
unfolding size nothing
size-nothing = sum-none _ 16 (λ t. sum-none _ 4096 (λ r. refl))

-- the pairs of a tablet, counted
abbrev pub size_of_tablet : Map → ℕ → ℕ
size_of_tablet m t = sum_to (λ r. one (m t r)) 4096

pub size-changed : (m : Map) (t r : ℕ) (o : Option ℕ) → t < 16 → r < 4096 → size (changed m t r o) + one (m t r) ≡ size m + one o
unfolding size
size-changed m t r o tl rl =
    let n = changed m t r o in
    let outer = sum-change (size_of_tablet n) (size_of_tablet m) t 16 tl (λ j apart. sum_same _ _ 4096 (λ v _. ap one (changed-tablet m t r o j v apart))) in
    let inner = sum-change (λ v. one (n t v)) (λ v. one (m t v)) r 4096 rl (λ j apart. ap one (changed-row m t r o t j apart)) in
    let here : one (n t r) ≡ one o = ap one (changed-here m t r o) in
    omega arith

-- a pair that was absent is one more
pub size-more : (m : Map) (t r stamp : ℕ) → t < 16 → r < 4096 → m t r ≡ None → size (changed m t r (Some stamp)) ≡ suc (size m)
size-more m t r stamp tl rl none = omega (arith, size-changed m t r (Some stamp) tl rl, ap one none)

-- a pair that is held is counted
pub one-le-size : (m : Map) (t r : ℕ) → t < 16 → r < 4096 → one (m t r) ≤ size m
one-le-size m t r tl rl = omega (arith, size-changed m t r None tl rl)

-- a pair that goes leaves the size within what it was within
pub size-gone : (most : ℕ) (m : Map) (t r : ℕ) → t < 16 → r < 4096 → size m ≤ most → size (changed m t r None) ≤ most
size-gone most m t r tl rl fits = omega (arith, size-changed m t r None tl rl)

-- the pairs of a tablet are no longer counted
pub size-cleared : (m : Map) (t : ℕ) → t < 16 → size (cleared m t) + size_of_tablet m t ≡ size m
unfolding size cleared
size-cleared m t tl =
    let outer = sum-change (size_of_tablet (cleared m t)) (size_of_tablet m) t 16 tl (λ j apart. sum_same _ _ 4096 (λ v _. grind (arith, nat_tests))) in
    let gone : size_of_tablet (cleared m t) t ≡ 0 = sum-none _ 4096 (λ v. grind (arith, nat_tests)) in
    omega arith
