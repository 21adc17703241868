-- Tablets that are forgotten one after another.
use Rattle.std.proofs.Common.{◌≡◌, ℕ, ◌+◌, ◌<◌, true, cond, ltb, is_some, None, arith}
use mathlib.Core.Path.{fun_ext}
use Rattle.std.proofs.lemmas.Bool.Decides.{nat_tests}
use Rattle.holdings.specs.Maps.{Map, nothing, cleared}

-- the pairs of the tablets below n are gone
unfoldable pub cleared_below : Map → ℕ → Map
cleared_below m n t r = cond (ltb t n) None (m t r)

pub cleared_below-none : (m : Map) → m ≡ cleared_below m 0
unfolding cleared_below
cleared_below-none m = fun_ext (λ t. fun_ext (λ r. grind (arith, nat_tests)))

pub cleared_below-more : (m : Map) (n : ℕ) → cleared (cleared_below m n) n ≡ cleared_below m (n + 1)
unfolding cleared_below cleared
cleared_below-more m n = fun_ext (λ t. fun_ext (λ r. grind (arith, nat_tests)))

pub cleared_below-all : (m : Map) → ((t r : ℕ) → is_some (m t r) ≡ true → (t < 16) × (r < 4096)) → cleared_below m 16 ≡ nothing
unfolding cleared_below nothing
cleared_below-all m inside = fun_ext (λ t. fun_ext (λ r. grind (arith, nat_tests, inside t r)))

pub ruleset emptying = (cleared_below-none, cleared_below-more, cleared_below-all)
