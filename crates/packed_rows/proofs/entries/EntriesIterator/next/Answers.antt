use Rattle.packed_rows.proofs.Coming.{coming-by}
use Rattle.packed_rows.proofs.entries.EntriesIterator.next.Goals as goal

pub returns-clause-steps : goal.returns-clause-steps
returns-clause-steps c =
    let r = c.args.self.now.records in
    let by = coming-by r.bytes.now r.offset c.in_ok-next.field-0 _ c.in_ok-next.ensures.steps in
    rw (c.ok.ensures.value) by
