use Rattle.std.proofs.Common.{◌≡◌, filter, sym, subst, ap, ◌∙◌, rules}
use Rattle.std.proofs.lemmas.Fn.{filter_same}
use Rattle.pair_table.specs.Pairs.{in_pairs, Ordered, elsewhere}
use Rattle.pair_table.proofs.Order.{Ordered-elsewhere}
use Rattle.pair_table.proofs.Searched.{in_pairs_elsewhere}
use Rattle.pair_table.proofs.PairTableHoldings.forget.Goals as goal
use Rattle.pair_table.proofs.PairTableHoldings.forget.Goals.{After-retain}

-- the closure keeps the pairs of other tablets
kept : (c : After-retain) → c.retain.new.self.items ≡ filter (elsewhere c.args.tablet) c.args.self.now.pairs.items
kept c = filter_same _ _ _ (λ x b f' k. search rules) _ _ c.retain.ensures.filtered

pub invariant_of-self-clause-ordered : goal.invariant_of-self-clause-ordered
invariant_of-self-clause-ordered c = subst Ordered (sym (kept (goal.at.invariant_of-self-clause-ordered c).After-retain)) (Ordered-elsewhere _ _ c.args.self.now.ordered)

pub returns : goal.returns
returns c =
    ap (λ ps. record { held = in_pairs ps; most = c.args.self.now.most }) (kept (goal.at.returns c).After-retain)
    ∙ ap (λ m. record { held = m; most = c.args.self.now.most }) (in_pairs_elsewhere c.args.self.now.pairs.items c.args.tablet)
