use Rattle.std.proofs.Common.{◌≡◌, drop}
use Rattle.script.specs.Lines.{link_of}
use Rattle.script.proofs.Links.{by_table}
use Rattle.script.proofs.setting.link_of.Given as goal

-- the rest of the table says what the whole does
abbrev pub invariant-loop-prefix : goal.invariant-loop-prefix
invariant-loop-prefix l = by_table l.word (drop l.prefix-index l.prefix-items) ≡ link_of l.word
