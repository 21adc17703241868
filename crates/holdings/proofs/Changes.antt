-- What a change of one pair leaves at that pair and at others, and what it has to do with another change.
use Rattle.std.proofs.Common.{◌≡◌, ◌≢◌, ℕ, ◌<◌, true, is_some, Option, arith}
use mathlib.Core.Path.{fun_ext}
use Rattle.std.proofs.lemmas.Bool.Decides.{nat_tests}
use Rattle.holdings.specs.Maps.{Map, rank, nothing, changed, cleared}

pub changed-here : (m : Map) (t r : ℕ) (o : Option ℕ) → changed m t r o t r ≡ o
unfolding changed
changed-here m t r o = grind (arith, nat_tests)

pub changed-at : (m : Map) (t r : ℕ) (o : Option ℕ) (u v : ℕ) → u ≡ t → v ≡ r → changed m t r o u v ≡ o
unfolding changed
changed-at m t r o u v p q = grind (arith, nat_tests)

pub changed-tablet : (m : Map) (t r : ℕ) (o : Option ℕ) (u v : ℕ) → u ≢ t → changed m t r o u v ≡ m u v
unfolding changed
changed-tablet m t r o u v apart = grind (arith, nat_tests)

pub changed-row : (m : Map) (t r : ℕ) (o : Option ℕ) (u v : ℕ) → v ≢ r → changed m t r o u v ≡ m u v
unfolding changed
changed-row m t r o u v apart = grind (arith, nat_tests)

-- another pair, told by its rank
pub changed-other : (m : Map) (t r : ℕ) (o : Option ℕ) (u v : ℕ) → rank t r ≢ rank u v → changed m t r o u v ≡ m u v
unfolding changed
changed-other m t r o u v apart = grind (arith, nat_tests)

-- a pair that comes before is left as it was
pub changed-before : (m : Map) (t r : ℕ) (o : Option ℕ) (u v : ℕ) → rank u v < rank t r → changed m t r o u v ≡ m u v
unfolding changed
changed-before m t r o u v less = grind (arith, nat_tests)

-- what is held stays in range
pub changed-inside : (m : Map) (t r : ℕ) (o : Option ℕ) (u v : ℕ) → t < 16 → r < 4096 → (is_some (m u v) ≡ true → (u < 16) × (v < 4096)) → is_some (changed m t r o u v) ≡ true → (u < 16) × (v < 4096)
unfolding changed
changed-inside m t r o u v tl rl inside some = grind (arith, nat_tests)

-- ---- two changes

pub changed-swap : (m : Map) (t r u v : ℕ) (o p : Option ℕ) → rank t r ≢ rank u v → changed (changed m t r o) u v p ≡ changed (changed m u v p) t r o
unfolding changed
changed-swap m t r u v o p apart = fun_ext (λ a. fun_ext (λ b. grind (arith, nat_tests)))

pub changed-twice : (m : Map) (t r u v : ℕ) (o p : Option ℕ) → t ≡ u → r ≡ v → changed (changed m t r o) u v p ≡ changed m u v p
unfolding changed
changed-twice m t r u v o p e f = fun_ext (λ a. fun_ext (λ b. grind (arith, nat_tests)))

-- ---- a tablet whose pairs are gone: `cleared` is what `without` leaves of the map

pub without-same : (m : Map) (t r u : ℕ) (o : Option ℕ) → t ≡ u → cleared m u ≡ cleared (changed m t r o) u
unfolding changed cleared
without-same m t r u o e = fun_ext (λ a. fun_ext (λ b. grind (arith, nat_tests)))

pub without_other : (m : Map) (t r u : ℕ) (o : Option ℕ) → t ≢ u → changed (cleared m u) t r o ≡ cleared (changed m t r o) u
unfolding changed cleared
without_other m t r u o apart = fun_ext (λ a. fun_ext (λ b. grind (arith, nat_tests)))

pub without-nothing : (u : ℕ) → nothing ≡ cleared nothing u
unfolding nothing cleared
without-nothing u = fun_ext (λ a. fun_ext (λ b. grind (arith, nat_tests)))
