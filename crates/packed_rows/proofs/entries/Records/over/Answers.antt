use Rattle.packed_rows.proofs.Coming.{few, gathered-all}
use Rattle.packed_rows.proofs.entries.Records.over.Goals as goal

pub returns-clause-list : goal.returns-clause-list
returns-clause-list c = gathered-all c.args.bytes.now

pub returns-clause-few : goal.returns-clause-few
returns-clause-few c = few c.args.bytes.now
