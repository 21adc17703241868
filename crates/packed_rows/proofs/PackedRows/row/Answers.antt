use Rattle.std.proofs.Common.{Some, None, vec_items, ap, ◌∙◌}
use Rattle.std.specs.Option.{option_map}
use Rattle.packed.specs.Views.{shown}
use Rattle.packed_rows.proofs.Opening.{row-seen, row-sound}
use Rattle.packed_rows.proofs.PackedRows.row.Goals as goal

pub returns-in_err-outline : goal.returns-in_err-outline
returns-in_err-outline c =
    let p = c.args.self.now in
    ap (option_map shown) c.from_residual-in_err-outline.ensures ∙ row-seen p.bytes.now (vec_items p.places) p.placed c.args.k _ c.in_ok-place.ensures None c.in_err-outline.ensures

pub invariant_of-imports : goal.invariant_of-imports
invariant_of-imports c =
    let p = c.args.self.now in
    record { whole = row-sound p.bytes.now (vec_items p.places) p.placed c.args.k _ c.in_ok-place.ensures c.in_ok-outline.outline c.in_ok-outline.ensures }

pub returns : goal.returns
returns c =
    let p = c.args.self.now in
    row-seen p.bytes.now (vec_items p.places) p.placed c.args.k _ c.in_ok-place.ensures (Some c.in_ok-outline.outline) c.in_ok-outline.ensures
