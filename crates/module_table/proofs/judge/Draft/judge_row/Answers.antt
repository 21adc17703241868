use Rattle.std.proofs.Common.{is_ok, sym, ap, ◌∙◌, arith}
use Rattle.rows.specs.Rows.{at}
use Rattle.project.specs.Rescan.{keeps}
use Rattle.packed_rows.specs.Entries.{entry_in}
use Rattle.module_table.specs.Drafts.{drafted}
use Rattle.module_table.proofs.Entering.{at_ok, kept-orders, new-orders}
use Rattle.module_table.proofs.judge.Draft.judge_row.Goals as goal
use Rattle.module_table.proofs.judge.Draft.judge_row.Goals.{then-number-count-2+else-not-is_kept_by, else-number-count-2+in_ok-map_err}

pub returns-clause-orders : goal.returns-clause-orders
returns-clause-orders g c =
    let rows = drafted (g.G.Graph.rows c.args.table.now) c.args.bytes.now c.args.self.now.places in
    let e = entry_in (c.args.offset, c.args.row.now) in
    elim c.if-number-count-2.branch [
      | then-number-count-2+else-not-is_kept_by w ↦ rw w.self-is (kept-orders rows e _ _ (omega arith) (sym {b = keeps (at rows e.number) e.row} w.if-not-is_kept_by.ensures) c.requires.ordered)
      | else-number-count-2+in_ok-map_err w ↦ rw w.self-is (new-orders rows e _ _ (omega arith) (at_ok w.enter.result (sym w.map_err.ensures.variant ∙ ap is_ok w.in_ok-map_err.was) w.enter.ensures.after))
    ]
