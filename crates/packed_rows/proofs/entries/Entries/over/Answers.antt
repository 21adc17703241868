use Rattle.std.proofs.Common.{arith, ◌∙◌}
use Rattle.packed_rows.specs.Entries.{unread}
use Rattle.packed_rows.proofs.Coming.{fewer, whole}
use Rattle.packed_rows.proofs.entries.Entries.over.Goals as goal

pub returns-clause-list : goal.returns-clause-list
returns-clause-list c = λ formed. whole (unread c.over.result) _ (c.over.ensures.list ∙ formed)

pub returns-clause-few : goal.returns-clause-few
returns-clause-few c = omega (arith, c.over.ensures.few, fewer (unread c.over.result))
