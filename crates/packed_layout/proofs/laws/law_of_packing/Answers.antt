use Rattle.packed_layout.proofs.Exact.{packing-is-exact}
use Rattle.packed_layout.proofs.laws.law_of_packing.Goals as goal

pub returns : goal.returns
returns c = packing-is-exact
