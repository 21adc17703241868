use Rattle.std.proofs.Common.{rules, ℕ, List, ap, ◌∙◌, arith}
use Rattle.std.specs.Option.{option_map}
use Rattle.std.proofs.lemmas.List.{take_rest}
use Rattle.rows.specs.declared.ImportRecord.{ImportRecord}
use Rattle.packed_layout.specs.Layout.{import_record}
use Rattle.packed.proofs.Places.{bytes-are, nth-is, nth-past}
use Rattle.packed.proofs.view.Imports.get.Goals as goal

pub returns-then-place-from : goal.returns-then-place-from
returns-then-place-from c = let i = c.args.self.now in nth-past i.count i.bytes.now i.whole c.args.place (omega arith)

pub slice_bounds-take_import-count : goal.slice_bounds-take_import-count
slice_bounds-take_import-count c = let i = c.args.self.now in omega (arith, bytes-are i.count i.bytes.now i.whole)

pub slice_bounds-take_import-start : goal.slice_bounds-take_import-start
slice_bounds-take_import-start c = let i = c.args.self.now in let e = bytes-are i.count i.bytes.now i.whole in search rules

pub returns-in_err-record : goal.returns-in_err-record
returns-in_err-record c =
    let i = c.args.self.now in
    c.from_residual.ensures
    ∙ ap (option_map (λ (p : ImportRecord × List ℕ). p.0)) (c.in_err-record.ensures ∙ ap import_record.read (take_rest i.bytes.now _))
    ∙ nth-is i.count i.bytes.now i.whole c.args.place (omega arith)

pub returns : goal.returns
returns c =
    let i = c.args.self.now in
    ap (option_map (λ (p : ImportRecord × List ℕ). p.0)) (c.in_ok-record.ensures ∙ ap import_record.read (take_rest i.bytes.now _))
    ∙ nth-is i.count i.bytes.now i.whole c.args.place (omega arith)
