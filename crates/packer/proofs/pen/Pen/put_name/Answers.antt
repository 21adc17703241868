use Rattle.packer.proofs.Putting.{put_both}
use Rattle.packer.proofs.pen.Pen.put_name.Goals as goal

pub returns-clause-written : goal.returns-clause-written
returns-clause-written c = put_both c.put_number.ensures c.put.ensures
