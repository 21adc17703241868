use Rattle.packer.proofs.Putting.{put_both}
use Rattle.packer.proofs.Row.put_head.Goals as goal

pub returns-clause-written : goal.returns-clause-written
returns-clause-written c =
    put_both c.put_number.ensures
    (put_both c.put_coded.ensures
    (put_both c.put_coded-2.ensures
    (put_both c.put_coded-3.ensures
    (put_both c.put_number-2.ensures
    (put_both c.put_name.ensures.written c.put_name-2.ensures.written)))))
