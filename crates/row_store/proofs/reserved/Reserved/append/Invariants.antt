use Rattle.std.proofs.Common.{◌≡◌, ◌+◌, ◌≤◌, length}
use Rattle.row_store.specs.Filled.{added}
use Rattle.row_store.proofs.reserved.Reserved.append.Given as goal

-- what came so far is added
abbrev pub invariant-loop-item : goal.invariant-loop-item
invariant-loop-item g l =
    (goal.iterator-loop-item g).can_next l.item-iterator
    × (goal.iterator-loop-item g).is_finite l.item-iterator
    × (length l.yielded + (goal.iterator-loop-item g).remaining l.item-iterator ≤ (goal.iterator-loop-item g).remaining l.initial.item-iterator)
    × (l.self ≡ added l.initial.self l.yielded)
