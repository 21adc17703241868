use Rattle.std.proofs.Common.{◌<◌, ap, ◌∙◌, length, arith}
use Rattle.project.specs.declared.Room.{Room}
use Rattle.row_store.specs.Renewed.{row_given}
use Rattle.row_store.specs.Stores.{rows_now, rows_before, written}
use Rattle.row_store.proofs.Room.{roomy}
use Rattle.row_store.proofs.Merging.{records-fit, refilled-more}
use Rattle.row_store.proofs.Putting.{told_parts}
use Rattle.row_store.proofs.store.RowStore.refill.Goals as goal

pub put-requires-clause-records_fit : goal.put-requires-clause-records_fit
put-requires-clause-records_fit g c =
    let s = c.args.self.now in let t = c.loop-row.self in let gs = g.C.Changes.given c.args.changes.now in let i = c.loop-row.invariant in
    let lt : c.loop-row.row < length gs = omega arith in
    let fit = records-fit (rows_now s) gs (written s) (rows_before t) (written t) c.loop-row.row (row_given c.change.result) i.so_far lt c.change.ensures (rows_now t) i.same in
    omega (arith, fit, (roomy s.room (rows_now s) (written s) gs c.requires).1, ap (λ (r : Room). r.records) i.room)

pub loop-row-preserved : goal.loop-row-preserved
loop-row-preserved g c =
    let s = c.args.self.now in let t = c.loop-row.self in let gs = g.C.Changes.given c.args.changes.now in let i = c.loop-row.invariant in let P = told_parts t c.put.new.self _ _ c.put.ensures in
    let lt : c.loop-row.row < length gs = omega arith in
    record {
      so_far = refilled-more (rows_now s) gs (written s) (rows_before t) (written t) c.loop-row.row (row_given c.change.result) i.so_far lt c.change.ensures (rows_now t) i.same (rows_before c.put.new.self) (written c.put.new.self) P.1 P.2;
      same = P.0 ∙ i.same;
      room = P.3 ∙ i.room;
    }
