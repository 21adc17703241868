use Rattle.packer.proofs.Putting.{put_both}
use Rattle.packer.proofs.pen.Pen.put_import.Goals as goal

pub returns : goal.returns
returns c = rw (← c.target_code.ensures) (put_both c.put_coded.ensures c.put_number.ensures)
