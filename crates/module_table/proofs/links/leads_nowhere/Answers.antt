use Rattle.std.proofs.Common.{sym, ◌∙◌, rules}
use Rattle.std.proofs.lemmas.Iterator.Search.{any_from_yields_List}
use Rattle.std.proofs.lemmas.Iterator.Consumers.{YieldsList-from_first}
use Rattle.packed_layout.specs.Layout.{Entry}
use Rattle.packed_rows.specs.Entries.{readable, coming, entry_in}
use Rattle.project.specs.Rescan.{dangling}
use Rattle.module_table.proofs.Passing.{any-map}
use Rattle.module_table.proofs.links.leads_nowhere.Goals as goal

pub returns : goal.returns
returns c =
    let entries = readable c.args.bytes.now 0 in
    any_from_yields_List (λ (e : Entry). dangling c.args.count e.row) c.any.new.self _ _ c.any.ensures.ran (YieldsList-from_first entry_in coming entries c.over.ensures.all) (λ x b q called. search rules) ∙ sym (any-map (dangling c.args.count) (λ (e : Entry). e.row) entries)
