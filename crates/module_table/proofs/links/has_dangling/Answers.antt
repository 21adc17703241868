use Rattle.std.proofs.Common.{leb, ◌∙◌, refl, rules}
use Rattle.std.proofs.lemmas.Iterator.Search.{any_from_yields_List}
use Rattle.std.proofs.lemmas.Iterator.Consumers.{YieldsList-from_first}
use Rattle.rows.specs.declared.ImportRecord.{ImportRecord}
use Rattle.rows.specs.Numbers.{any}
use Rattle.rows.specs.Rows.{resolved}
use Rattle.packed.specs.Views.{imports_in}
use Rattle.module_table.proofs.Passing.{any-target}
use Rattle.module_table.proofs.links.has_dangling.Goals as goal

pub returns : goal.returns
returns c =
    let records = imports_in c.args.row.now.imports in
    let test = leb c.args.count in
    any_from_yields_List (λ (e : ImportRecord). any test (resolved e.target)) c.any.new.self _ _ c.any.ensures.ran (YieldsList-from_first (λ x. x) imports_in records refl) (λ x b q called. search rules) ∙ any-target test records
