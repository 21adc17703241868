use Rattle.std.proofs.Common.{◌≡◌, ℕ, List, sym, ◌∙◌, rules}
use Rattle.std.proofs.lemmas.List.{at_drop_all}
use Rattle.holdings.specs.Puts.{put_each, stamp_in}
use Rattle.holdings.proofs.Putting.{each-is-all, one_by_one, put_each-drop, taken-drop}
use Rattle.holdings.proofs.uses.put_all.Given.{Over}
use Rattle.holdings.proofs.uses.put_all.Goals as goal
use Rattle.holdings.proofs.uses.put_all.Goals.{After-loop-row}

pub returns-in_err-check_room-clause-one_by_one : goal.returns-in_err-check_room-clause-one_by_one
returns-in_err-check_room-clause-one_by_one g c =
    one_by_one _ _ _ _ _ _ (g.met.S.Holdings.within c.args.store.now) (search rules) (λ ok. absurd (search rules))

pub loop-row-preserved : goal.loop-row-preserved
loop-row-preserved g c =
    let n = g.S.Holdings.state c.loop-row.store in
    let t = c.args.tablet in
    let rows = c.args.rows.now in
    let stamp = stamp_in c.args.stamps.now in
    let i = c.loop-row.row-index in
    let l = c.loop-row-test.true in
    let inv = c.loop-row.invariant in
    rw (c.in_ok-set.ensures.after, c.stamp_of.ensures) (sym (put_each-drop n t rows stamp i l) ∙ inv.0, taken-drop n t rows stamp i l inv.1)

-- no row is left
all_put : (g : Over) (c : After-loop-row g) → g.S.Holdings.state c.loop-row.store ≡ put_each (g.S.Holdings.state c.args.store.now) c.args.tablet c.args.rows.now (stamp_in c.args.stamps.now)
all_put g c =
    let left = λ (xs : List ℕ). put_each (g.S.Holdings.state c.loop-row.store) c.args.tablet xs (stamp_in c.args.stamps.now) in
    sym (at_drop_all left c.args.rows.now c.loop-row.row-index c.loop-row-test.false) ∙ c.loop-row.invariant.0

pub returns-clause-after : goal.returns-clause-after
returns-clause-after g c = all_put g c ∙ each-is-all _ c.args.tablet c.args.rows.now (stamp_in c.args.stamps.now)

pub returns-clause-one_by_one : goal.returns-clause-one_by_one
returns-clause-one_by_one g c =
    one_by_one _ _ _ _ _ _ (g.met.S.Holdings.within c.args.store.now) (search rules) (λ ok. all_put g c)
