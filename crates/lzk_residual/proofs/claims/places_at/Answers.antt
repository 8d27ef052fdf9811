use Rattle.std.proofs.Common.{ap, arith}
use Rattle.lzk_residual.proofs.claims.places_at.Goals as goal

pub returns-clause-sent : goal.returns-clause-sent
returns-clause-sent g c =
    let p = c.loop-k.invariant.places in
    omega (arith, ap (λ x. x.factors_sent) p, ap (λ x. x.messages) p, ap (λ x. x.bits) p)

pub returns-clause-pads : goal.returns-clause-pads
returns-clause-pads g c =
    let p = c.loop-k.invariant.places in
    omega (arith, ap (λ x. x.factors) p, ap (λ x. x.pads) p, ap (λ x. x.bits) p)
