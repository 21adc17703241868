use Rattle.std.proofs.Common.{◌≡◌, ap, ◌∙◌, arith}
use Rattle.holdings.proofs.Emptying.{cleared_below, cleared_below-all}
use Rattle.holdings.proofs.uses.forget_all.Goals as goal

pub returns : goal.returns
returns g c =
    let was = g.S.Holdings.state c.args.store.now in
    let all : c.loop-tablet.tablet ≡ 16 = omega arith in
    c.loop-tablet.invariant
    ∙ ap (λ m. record { held = m; most = was.most }) (ap (cleared_below was.held) all ∙ cleared_below-all was.held (g.met.S.Holdings.inside c.args.store.now))
