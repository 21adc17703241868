-- What a search of a table in order found, and what an edit at that place leaves.
use Rattle.std.proofs.Common.{◌≡◌, ℕ, true, List, get_or, set, filter, is_some, is_ok, Some, None, Result, Ok, Err, MatchResult, ap, sym, arith}
use mathlib.Core.Path.{fun_ext}
use Rattle.std.specs.List.{insert}
use Rattle.holdings.specs.Maps.{changed, cleared}
use Rattle.holdings.specs.Spots.{rank_of}
use Rattle.holdings.specs.declared.spot.Spot.{Spot}
use Rattle.pair_table.specs.Pairs.{in_pairs, Ordered, Found, Missing, elsewhere}
use Rattle.pair_table.specs.declared.pair.Pair.{Pair}
use Rattle.pair_table.proofs.Paired.{NoneBefore, in_pairs-missing, in_pairs-found, in_pairs-set, in_pairs-insert, in_pairs-filter}

module _ (ps : List Pair) (spot : Spot) (i : ℕ) (ordered : Ordered ps) (found : Found ps spot i) where
  none_before_found : NoneBefore ps spot i
  none_before_found j d l same = omega (arith, ordered j i d l found.0, found.1 d)

  pub found_stamp : (d : Pair) → in_pairs ps spot.tablet spot.row ≡ Some (get_or ps i d).stamp
  found_stamp d = in_pairs-found ps spot i d found.0 (found.1 d) none_before_found

  pub found_some : (d : Pair) → is_some (in_pairs ps spot.tablet spot.row) ≡ true
  found_some d = ap is_some (found_stamp d)

  pub found_put : (x : Pair) → rank_of x.spot ≡ rank_of spot → in_pairs (set ps i x) ≡ changed (in_pairs ps) spot.tablet spot.row (Some x.stamp)
  found_put x same = fun_ext (λ u. fun_ext (λ v. in_pairs-set ps spot i x found.0 found.1 same none_before_found u v))

module _ (ps : List Pair) (spot : Spot) (i : ℕ) (missing : Missing ps spot i) where
  pub missing_none : in_pairs ps spot.tablet spot.row ≡ None
  missing_none = in_pairs-missing ps spot (λ j d l same. grind (arith, missing.1.0 j d, missing.1.1 j d))

  pub missing_put : (stamp : ℕ) → in_pairs (insert ps i (record { spot = spot; stamp = stamp })) ≡ changed (in_pairs ps) spot.tablet spot.row (Some stamp)
  missing_put stamp = fun_ext (λ u. fun_ext (λ v. in_pairs-insert ps i (record { spot = spot; stamp = stamp }) (λ j d l same. omega (arith, missing.1.0 j d (omega arith) l)) u v))

-- a search ends in `Ok` just where the spot is held
pub found_if_held : (ps : List Pair) (spot : Spot) (r : Result ℕ ℕ) → Ordered ps → MatchResult r (Found ps spot) (Missing ps spot) → is_ok r ≡ is_some (in_pairs ps spot.tablet spot.row)
found_if_held ps spot (Ok i) ordered found = sym (found_some ps spot i ordered found (record { spot = spot; stamp = 0 }))
found_if_held ps spot (Err i) ordered missing = ap is_some (sym (missing_none ps spot i missing))

pub in_pairs_elsewhere : (ps : List Pair) (tablet : ℕ) → in_pairs (filter (elsewhere tablet) ps) ≡ cleared (in_pairs ps) tablet
in_pairs_elsewhere ps tablet = fun_ext (λ u. fun_ext (λ v. in_pairs-filter ps tablet u v))
