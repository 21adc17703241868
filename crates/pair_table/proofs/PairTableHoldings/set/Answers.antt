use Rattle.std.proofs.Common.{◌≡◌, sym, subst, ap, ◌∙◌, rules}
use Rattle.std.specs.List.{insert}
use Rattle.holdings.specs.Spots.{rank_of}
use Rattle.pair_table.specs.Pairs.{Ordered}
use Rattle.pair_table.proofs.Order.{Ordered-insert}
use Rattle.pair_table.proofs.Searched.{found_put, missing_put}
use Rattle.pair_table.proofs.PairTableHoldings.set.Goals as goal

pub invariant_of-self-then-len-self-clause-ordered : goal.invariant_of-self-then-len-self-clause-ordered
invariant_of-self-then-len-self-clause-ordered c =
    let s = c.args.self.now in
    let items : c.insert.new.self.items ≡ insert s.pairs.items c.in-Err.i (record { spot = c.in_ok-spot.spot; stamp = c.args.stamp }) = search rules in
    subst Ordered (sym items) (Ordered-insert s.pairs.items c.in-Err.i _ c.in-Err.ensures.place s.ordered)

pub returns-in-Ok-clause-after : goal.returns-in-Ok-clause-after
returns-in-Ok-clause-after c =
    let s = c.args.self.now in
    let spot = c.in_ok-spot.spot in
    let place = c.in-Ok.ensures.place in
    let was = c.index_mut.result.now in
    let same : rank_of was.spot ≡ rank_of spot = ap (λ p. rank_of p.spot) c.index_mut.ensures.value ∙ place.1 was in
    let pair = rw c.in_ok-spot.ensures.ok_part at c.of.ensures.pair in
    rw (← pair.0, ← pair.1) (
    ap (λ m. record { held = m; most = s.most }) (found_put s.pairs.items spot c.in-Ok.i s.ordered place (record { spot = was.spot; stamp = c.args.stamp }) same)
    )

pub returns-in-Err-clause-after : goal.returns-in-Err-clause-after
returns-in-Err-clause-after c =
    let s = c.args.self.now in
    let spot = c.in_ok-spot.spot in
    let items : c.insert.new.self.items ≡ insert s.pairs.items c.in-Err.i (record { spot = spot; stamp = c.args.stamp }) = search rules in
    let pair = rw c.in_ok-spot.ensures.ok_part at c.of.ensures.pair in
    rw (items, ← pair.0, ← pair.1) (ap (λ m. record { held = m; most = s.most }) (missing_put s.pairs.items spot c.in-Err.i c.in-Err.ensures.place c.args.stamp))
