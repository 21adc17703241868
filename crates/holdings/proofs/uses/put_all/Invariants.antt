use Rattle.std.proofs.Common.{◌≡◌, true, drop}
use Rattle.holdings.specs.Puts.{put_each, takes_all, stamp_in}
use Rattle.holdings.proofs.uses.put_all.Given as goal

-- the rows that are left lead to the store that all of them lead to, and they are taken
abbrev pub invariant-loop-row : goal.invariant-loop-row
invariant-loop-row g l =
    let state = g.S.Holdings.state in
    let rows = drop l.row-index l.rows in
    (put_each (state l.store) l.tablet rows (stamp_in l.stamps) ≡ put_each (state l.initial.store) l.tablet l.rows (stamp_in l.stamps))
    × (takes_all (state l.store) l.tablet rows ≡ true)
