use Rattle.std.proofs.Common.{◌≡◌, get_or, Some, None, ap, ◌∙◌, rules}
use Rattle.packed.specs.Views.{outline_at}
use Rattle.module_table.specs.Drafts.{glance_row}
use Rattle.module_table.proofs.Overlays.{shown_by, glanced_at}
use Rattle.module_table.proofs.overlay.Overlay.glance.Goals as goal

pub returns : goal.returns
returns g c =
    let o = c.args.self.now in
    let place : Some c.in_ok-offset.offset ≡ get_or o.places.now c.args.row None = search rules in
    shown_by c.glance_at.result (outline_at o.bytes.now c.in_ok-offset.offset) c.glance_at.ensures
    ∙ ap (glance_row o.bytes.now) place ∙ glanced_at o.bytes.now o.places.now c.args.row
