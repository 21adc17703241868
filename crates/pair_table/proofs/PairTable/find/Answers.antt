use Rattle.std.proofs.Common.{rules}
use Rattle.std.proofs.lemmas.List.Sorted.{answers_always}
use Rattle.holdings.specs.Spots.{rank_of}
use Rattle.pair_table.proofs.Order.{searched_by_rank}
use Rattle.pair_table.proofs.Searched.{found_if_held}
use Rattle.pair_table.proofs.PairTable.find.Goals as goal

-- the closure gives the rank of a pair's spot, and the slice is the table's pairs
pub returns-clause-place : goal.returns-clause-place
returns-clause-place c =
    let facts = c.binary_search_by_key.ensures in
    let by_rank = facts.position (λ pair. rank_of pair.spot) (answers_always _ _ _ (λ f a r g called. search rules)) in
    searched_by_rank _ c.args.self.now.ordered c.args.spot _ c.rank.ensures _ _ facts.bound by_rank (search rules)

pub returns-clause-held : goal.returns-clause-held
returns-clause-held c = found_if_held _ c.args.spot _ c.args.self.now.ordered (returns-clause-place c)
