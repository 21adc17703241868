use Rattle.std.proofs.Common.{rules}
use Rattle.rows.specs.Rows.{Row}
use Rattle.module_table.specs.Drafts.{glanced_by}
use Rattle.module_table.proofs.Overlays.{told-table, sort_at}
use Rattle.module_table.proofs.overlay.Overlay.sort.Goals as goal

pub returns-in-None : goal.returns-in-None
returns-in-None g c =
    let o = c.args.self.now in let table = g.G.Graph.rows o.table.now in
    told-table (λ (q : Row). q.sort) table (glanced_by o.bytes.now o.places.now) c.args.row _ c.in-None.ensures (sort_at table c.args.row _ _ c.facts.ensures (λ f called. search rules) c.map_or.ensures)
