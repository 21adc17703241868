use Rattle.std.proofs.Common.{rules, []}
use Rattle.script.proofs.Hexes.{odd_is, pairs-start, pairs-turn}
use Rattle.script.proofs.bytes.hex_of.Goals as goal

pub returns-then-not-is_empty : goal.returns-then-not-is_empty
returns-then-not-is_empty c = let none = odd_is c.args.word.now _ c.as_chunks.ensures.back_len c.if-not-is_empty.ensures in search (rules, none)

pub loop-high-init : goal.loop-high-init
loop-high-init c = pairs-start c.args.word.now _ c.as_chunks.result.0.now c.new-bytes.ensures.items c.as_chunks.ensures.front (search rules)

pub loop-high-preserved : goal.loop-high-preserved
loop-high-preserved c = pairs-turn _ c.as_chunks.result.0.now c.loop-high.high-index [] _ c.loop-high.invariant _ _ c.loop-high-test.true (search rules) c.in_ok-push.ensures.items
