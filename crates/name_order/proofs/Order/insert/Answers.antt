use Rattle.std.proofs.Common.{vec_items, arith}
use Rattle.name_order.proofs.Placing.{order-long}
use Rattle.name_order.proofs.Order.insert.Goals as goal

-- the next row's number is below 65,536, and so is how many rows there are
pub returns-then-len-ge-MOST_ROWS-clause-answer : goal.returns-then-len-ge-MOST_ROWS-clause-answer
returns-then-len-ge-MOST_ROWS-clause-answer g c o e =
    let s = c.args.self.now in absurd (omega (arith, order-long (g.N.Names.names c.args.names.now) (vec_items s.rows) o, s.rows.ok.0, c.ranges.row.fits))
