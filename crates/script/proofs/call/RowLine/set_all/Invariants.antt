use Rattle.std.proofs.Common.{◌≡◌}
use Rattle.script.specs.Parsed.{row_in}
use Rattle.script.proofs.Settings.{SettingLeft}
use Rattle.script.proofs.call.RowLine.set_all.Given as goal

-- what is left to set gives the whole, and the number stays
abbrev pub invariant-loop-word : goal.invariant-loop-word
invariant-loop-word l =
    (goal.iterator-loop-word).can_next l.word-iterator
    × (goal.iterator-loop-word).is_finite l.word-iterator
    × SettingLeft (row_in l.self) l.word-iterator.rest.now (row_in l.fn.self) l.fn.words.rest.now
    × (l.self.number ≡ l.fn.self.number)
