use Rattle.std.proofs.Common.{◌≡◌, drop, vec_items}
use Rattle.script.specs.Words.{hex_of}
use Rattle.script.proofs.Hexes.{prefixed, all_pairs}
use Rattle.script.proofs.bytes.hex_of.Given as goal

-- the bytes so far, before those of the pairs that are left
abbrev pub invariant-loop-high : goal.invariant-loop-high
invariant-loop-high l = prefixed (vec_items l.bytes) (all_pairs (drop l.high-index l.pairs)) ≡ hex_of l.word
