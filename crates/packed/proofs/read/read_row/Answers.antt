use Rattle.std.proofs.Common.{◌≡◌, ℕ, Bool, ◌||◌, ap, ◌∙◌}
use Rattle.std.specs.Option.{option_map}
use Rattle.rows.specs.Rows.{is_normal_sort}
use Rattle.packed_layout.specs.Layout.{bare}
use Rattle.packed.specs.Views.{imports_in, shown}
use Rattle.packed.specs.declared.view.Outline.{Outline}
use Rattle.packed.proofs.RowsRead.{row_read, row-broken, row-barred}
use Rattle.packed.proofs.read.read_row.Goals as goal

-- what the test says of a count, it says of the number that the count is converted to
told : (o : Outline) {n : ℕ} {answer : Bool} → n ≡ o.count → answer ≡ (is_normal_sort o.head.facts.sort || bare o.head.facts.flags o.head.facts.exports n) → answer ≡ (is_normal_sort o.head.facts.sort || bare o.head.facts.flags o.head.facts.exports o.count)
told o same e = e ∙ ap (λ n. is_normal_sort o.head.facts.sort || bare o.head.facts.flags o.head.facts.exports n) same

pub returns-then-not-is_allowed : goal.returns-then-not-is_allowed
returns-then-not-is_allowed c = row-barred c.args.payload.now c.in_ok-outline.outline c.in_ok-outline.ensures (told c.in_ok-outline.outline c.from.ensures c.if-not-is_allowed.ensures)

pub returns-in_err-imports : goal.returns-in_err-imports
returns-in_err-imports c = ap (option_map shown) c.from_residual-in_err-imports.ensures ∙ row-broken c.args.payload.now c.in_ok-outline.outline c.in_ok-outline.ensures c.in_err-imports.ensures

pub returns : goal.returns
returns c = row_read c.args.payload.now c.in_ok-outline.outline c.in_ok-outline.ensures (told c.in_ok-outline.outline c.from.ensures c.if-not-is_allowed.ensures) (imports_in c.in_ok-imports.imports) c.in_ok-imports.ensures
