use Rattle.std.proofs.Common.{◌≡◌, sym, ap, ◌∙◌}
use Rattle.holdings.specs.Maps.{nothing, size}
use Rattle.holdings.specs.Stores.{empty}
use Rattle.holdings.proofs.Sizes.{size-nothing}
use Rattle.cells.specs.Cells.{in_cells}
use Rattle.cells.proofs.Celled.{in_cells-none, only_none}
use Rattle.cells.proofs.Cells.new.Goals as goal
use Rattle.cells.proofs.Cells.new.Goals.{In_ok-cells}

-- a clone of `None` is `None`
none_held : (c : In_ok-cells) → in_cells c.in_ok-cells.cells.items ≡ nothing
none_held c = ap in_cells (c.in_ok-cells.ensures.items_if_clones_equal (only_none _ (λ x h. h))) ∙ in_cells-none 65536

pub invariant_of-result-clause-counted : goal.invariant_of-result-clause-counted
invariant_of-result-clause-counted c = sym (ap size (none_held (goal.at.invariant_of-result-clause-counted c).In_ok-cells) ∙ size-nothing)

pub returns : goal.returns
returns c = ap (λ m. record { held = m; most = c.min.result }) (none_held (goal.at.returns c).In_ok-cells) ∙ ap empty c.min.ensures
