use Rattle.packer.proofs.Putting.{put_both}
use Rattle.packer.proofs.pen.Pen.put_header.Goals as goal

pub returns : goal.returns
returns c = put_both c.put_number.ensures c.put_number-2.ensures
