use Rattle.std.proofs.Common.{is_ok, sym, ap, ◌∙◌}
use Rattle.std.proofs.lemmas.Result.{err_from_is_err_and}
use Rattle.packed.specs.Views.{shown}
use Rattle.name_order.specs.Listed.{listed}
use Rattle.module_table.specs.declared.overlay.NameKind.TheVariants.{Id, StableId}
use Rattle.module_table.specs.Drafts.{drafted}
use Rattle.module_table.proofs.Entering.{on_ok, next-name, first_taken, second-decides, entered}
use Rattle.module_table.proofs.judge.Orders.enter.Goals as goal

pub returns-in_err-insert-clause-answer : goal.returns-in_err-insert-clause-answer
returns-in_err-insert-clause-answer g c =
    let o = c.args.rows.now in let rows = drafted (g.G.Graph.rows o.table.now) o.bytes.now o.places.now in
    let p = err_from_is_err_and c.from_residual.result c.from_residual.ensures.1 in
    let told = c.insert.ensures.answer c.requires.ordered.0 (next-name rows (shown c.args.row.now).1 Id _ c.requires.next) in
    ap is_ok p.1 ∙ sym (first_taken rows (shown c.args.row.now).1 c.insert.result told (ap is_ok c.in_err-insert.was))

pub returns-clause-answer : goal.returns-clause-answer
returns-clause-answer g c =
    let o = c.args.rows.now in let rows = drafted (g.G.Graph.rows o.table.now) o.bytes.now o.places.now in
    let row = (shown c.args.row.now).1 in
    second-decides rows row c.insert.result c.insert-2.result (c.insert.ensures.answer c.requires.ordered.0 (next-name rows row Id _ c.requires.next)) (ap is_ok c.in_ok-insert.was) (c.insert-2.ensures.answer c.requires.ordered.1 (next-name rows row StableId _ c.requires.next))

pub returns-clause-after : goal.returns-clause-after
returns-clause-after g c =
    let o = c.args.rows.now in let rows = drafted (g.G.Graph.rows o.table.now) o.bytes.now o.places.now in
    let row = (shown c.args.row.now).1 in
    let one = next-name rows row Id _ c.requires.next in let two = next-name rows row StableId _ c.requires.next in
    on_ok c.insert-2.result (λ good. (
      entered rows row Id (listed c.args.self.now.ids) (listed c.insert.new.self) c.insert.result c.requires.ordered.0 (c.insert.ensures.answer c.requires.ordered.0 one) (ap is_ok c.in_ok-insert.was) (c.insert.ensures.after c.requires.ordered.0 one),
      entered rows row StableId (listed c.args.self.now.stable_ids) (listed c.insert-2.new.self) c.insert-2.result c.requires.ordered.1 (c.insert-2.ensures.answer c.requires.ordered.1 two) good (c.insert-2.ensures.after c.requires.ordered.1 two),
    ))
