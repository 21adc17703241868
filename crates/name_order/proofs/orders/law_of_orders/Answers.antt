use Rattle.name_order.proofs.Arranging.{by_name}
use Rattle.name_order.proofs.orders.law_of_orders.Goals as goal

pub returns : goal.returns
returns c = by_name
