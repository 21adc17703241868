use Rattle.std.proofs.Common.{rules}
use Rattle.packer.specs.Packs.{meant}
use Rattle.packer.proofs.Fitting.{fit_is_tested}
use Rattle.packer.proofs.Packing.{put-packed, packs-ok, reads-back}
use Rattle.packer.proofs.Row.pack.Goals as goal

pub returns-clause-written : goal.returns-clause-written
returns-clause-written c =
    let p = meant c.args.self.now in
    let sized = c.in_ok-size.ensures in
    packs-ok p c.new-pen.ensures.front (put-packed p sized.size c.put_header.ensures c.put_head.ensures.written c.put_imports.ensures) (search rules) sized.fits

pub returns-clause-told : goal.returns-clause-told
returns-clause-told c =
    let p = meant c.args.self.now in
    let sized = c.in_ok-size.ensures in
    reads-back p c.new-pen.ensures.front (put-packed p sized.size c.put_header.ensures c.put_head.ensures.written c.put_imports.ensures) (search rules) (fit_is_tested.fits p c.put_head.ensures.typed sized.fits)
