use Rattle.std.proofs.Common.{rules, sym, ◌∙◌}
use Rattle.script.proofs.Settings.{left-turn, left-wrong, left-done}
use Rattle.script.proofs.call.RowLine.set_all.Goals as goal

pub loop-word-preserved : goal.loop-word-preserved
loop-word-preserved c =
    (tt, tt, left-turn c.loop-word.invariant.2 _ _ c.in-Some.ensures.steps (c.in-Some.ensures.goes.on tt).2 _ _ (sym c.in_ok-ok_or.ensures.ok_part ∙ c.setting_of.ensures) c.in_ok-set.ensures.row, c.in_ok-set.ensures.number ∙ c.loop-word.invariant.3)

pub returns : goal.returns
returns c = record { row = left-done c.loop-word.invariant.2 c.in-None.ensures.steps; number = c.loop-word.invariant.3 }

pub returns-in_err-ok_or-clause-row : goal.returns-in_err-ok_or-clause-row
returns-in_err-ok_or-clause-row c =
    let wrong = left-wrong c.loop-word.invariant.2 c.in-Some.word.now c.next.new.self.rest.now c.in-Some.ensures.steps (c.in-Some.ensures.goes.on tt).2 (sym c.in_err-ok_or.ensures.ok_part ∙ c.setting_of.ensures) in search (rules, wrong)
