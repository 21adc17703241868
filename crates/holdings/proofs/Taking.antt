-- When a pair is taken, and what is answered.
use Rattle.std.proofs.Common.{◌≡◌, ℕ, ◌<◌, ◌≤◌, Bool, true, false, is_some, is_ok, Some, refl, arith}
use Rattle.std.proofs.lemmas.Bool.Decides.{nat_tests}
use Rattle.holdings.specs.Answers.{answered}
use Rattle.holdings.specs.Maps.{size}
use Rattle.holdings.specs.Stores.{Store, put, takes}
use Rattle.holdings.proofs.Sizes.{size-changed}

pub ok-answered : (b : Bool) → is_ok (answered b) ≡ b
ok-answered true = refl
ok-answered false = refl

module _ (s : Store) (t r : ℕ) where
  pub takes-held : t < 16 → r < 4096 → is_some (s.held t r) ≡ true → takes s t r ≡ true
  takes-held tl rl some = grind (arith, nat_tests)

  pub takes-room : t < 16 → r < 4096 → size s.held < s.most → takes s t r ≡ true
  takes-room tl rl room = grind (arith, nat_tests)

  pub takes-full : is_some (s.held t r) ≡ false → s.most ≤ size s.held → takes s t r ≡ false
  takes-full none full = grind (arith, nat_tests)

  -- where the store holds its most, just the pairs that are held are taken
  pub takes-at-most : t < 16 → r < 4096 → s.most ≤ size s.held → takes s t r ≡ is_some (s.held t r)
  takes-at-most tl rl full = grind (arith, nat_tests)

  pub taken-in-range : takes s t r ≡ true → (t < 16) × (r < 4096)
  taken-in-range taken = grind (arith, nat_tests)

  -- a pair that is taken leaves the size within the most
  pub size-taken : (stamp : ℕ) → takes s t r ≡ true → size s.held ≤ s.most → size (put s t r stamp).held ≤ s.most
  size-taken stamp taken fits = grind (arith, nat_tests, size-changed s.held t r (Some stamp))
