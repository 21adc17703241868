use Rattle.std.proofs.Common.{◌+◌, ◌-◌, ◌/◌, ◌<◌, length, vec_items, sym, ap, ◌∙◌, arith}
use Rattle.name_order.specs.Orders.{compared, named}
use Rattle.name_order.proofs.Placing.{order-rises}
use Rattle.name_order.proofs.Halving.{halved-start, halved-less, halved-greater, met, unmet}
use Rattle.name_order.proofs.Order.locate.Goals as goal

pub loop-low-init : goal.loop-low-init
loop-low-init g c =
    let s = c.args.self.now in
    (omega arith, omega arith, λ o. halved-start (named (g.N.Names.names c.args.names.now)) c.args.name.now (vec_items s.rows) c.len-high.result (omega (arith, s.rows.ok.0, c.len-high.ensures)))

pub loop-low-preserved-in-Less : goal.loop-low-preserved-in-Less
loop-low-preserved-in-Less g c =
    let xs = vec_items c.args.self.now.rows in let name = c.args.name.now in let names = g.N.Names.names c.args.names.now in
    let low = c.loop-low.low in let high = c.loop-low.high in let mid = low + (high - low) / 2 in
    let lt : mid < length xs = omega (arith, c.args.self.now.rows.ok.0) in
    let answer = ap (λ n. compared n name) (sym c.name.ensures) ∙ sym c.cmp.ensures ∙ c.in-Less.is in
    (omega arith, omega arith, λ o. halved-less (named names) name xs (order-rises names xs o) low mid high c.index.result.now c.index.ensures lt answer (c.loop-low.invariant.2 o))

pub loop-low-preserved : goal.loop-low-preserved
loop-low-preserved g c =
    let xs = vec_items c.args.self.now.rows in let name = c.args.name.now in let names = g.N.Names.names c.args.names.now in
    let low = c.loop-low.low in let high = c.loop-low.high in let mid = low + (high - low) / 2 in
    let lt : mid < length xs = omega (arith, c.args.self.now.rows.ok.0) in
    let answer = ap (λ n. compared n name) (sym c.name.ensures) ∙ sym c.cmp.ensures ∙ c.in-Greater.is in
    (omega arith, omega arith, λ o. halved-greater (named names) name xs (order-rises names xs o) low mid high c.index.result.now c.index.ensures lt answer (c.loop-low.invariant.2 o))

pub returns-in-Equal-clause-located : goal.returns-in-Equal-clause-located
returns-in-Equal-clause-located g c o =
    let xs = vec_items c.args.self.now.rows in let name = c.args.name.now in let names = g.N.Names.names c.args.names.now in
    let low = c.loop-low.low in let high = c.loop-low.high in let mid = low + (high - low) / 2 in
    let lt : mid < length xs = omega (arith, c.args.self.now.rows.ok.0) in
    let answer = ap (λ n. compared n name) (sym c.name.ensures) ∙ sym c.cmp.ensures ∙ c.in-Equal.is in
    met names name xs o mid c.index.result.now c.index.ensures lt answer

pub returns-clause-located : goal.returns-clause-located
returns-clause-located g c o =
    let s = c.args.self.now in
    unmet (g.N.Names.names c.args.names.now) c.args.name.now (vec_items s.rows) o c.loop-low.low c.loop-low.high (omega (arith, s.rows.ok.0)) (omega arith) (c.loop-low.invariant.2 o)
