use Rattle.std.proofs.Common.{arith}
use Rattle.std.proofs.lemmas.Grind.{common_steps}
use Rattle.packed_layout.specs.Layout.{import_record}
use Rattle.packed_layout.proofs.Exact.{length-imports}
use Rattle.packer.proofs.Putting.{put_both, put_more}
use Rattle.packer.proofs.pen.Pen.put_imports.Goals as goal

pub put_import-requires : goal.put_import-requires
put_import-requires c = grind (arith, common_steps, length-imports)

pub loop-record-preserved : goal.loop-record-preserved
loop-record-preserved c = put_more import_record c.args.records.now c.loop-record.record-index _ c.loop-record-test.true c.loop-record.invariant c.put_import.ensures

pub returns : goal.returns
returns c = let p = put_both c.put_number.ensures c.loop-record.invariant in grind (arith, common_steps)
