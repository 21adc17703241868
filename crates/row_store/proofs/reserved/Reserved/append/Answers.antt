use Rattle.std.proofs.Common.{◌∙◌}
use Rattle.std.proofs.iter.runs.Made.{run_of_exit}
use Rattle.row_store.proofs.Adding.{appended}
use Rattle.row_store.proofs.reserved.Reserved.append.Goals as goal

pub returns : goal.returns
returns g c =
    let all = run_of_exit g.I.Iterator.next_gives c.into_iter-item-iterator.result c.loop-item.yielded c.loop-item.item-iterator c.loop-item.yielded_by c.next.new.self c.in-None.ensures.steps in
    record {
      runs = (all.0, all.1 ∙ c.into_iter-item-iterator.ensures.into_iter_gives, all.2, appended c.args.self.now c.loop-item.self c.loop-item.yielded all.0.items _ _ c.loop-item.invariant.3 all.3.0 c.len-start.ensures c.len.ensures);
    }
