use Rattle.std.proofs.Common.{◌≡◌, ◌+◌, ◌*◌, suc, ap, ◌∙◌, arith}
use Rattle.lzk_layout.specs.declared.places.LayerPlaces.{LayerPlaces}
use Rattle.lzk_layout.specs.Places.{round_count}
use Rattle.lzk_accept.specs.Residuals.{claim_after}
use Rattle.lzk_accept.specs.Walks.{challenge_of}
use Rattle.lzk_residual.proofs.ClaimLaws.{claim_first, one_more}
use Rattle.lzk_residual.proofs.claims.after_rounds.Goals as goal

pub loop-n-init : goal.loop-n-init
loop-n-init g c =
    let f = g.F.Field in
    let a = c.args in
    let x = a.witnessed.now.exchange in
    claim_first f.ops f.coding.element x.scripted.circuit.now x.scripted.script.now x.messages.now a.witnessed.now.w.now a.l c.add-claim.result c.claims_on-first.result.0 c.claims_on-first.result.1 c.layer_of-layer.result.now.alpha
    c.claims_on-first.ensures.first c.claims_on-first.ensures.second (ap (λ x. x.alpha) c.layer_of-layer.ensures.layer) (c.add-claim.ensures ∙ ap (f.ops.plus c.claims_on-first.result.0) c.mul.ensures)

pub after_round-claim-requires-clause-few : goal.after_round-claim-requires-clause-few
after_round-claim-requires-clause-few g c κs within = omega (arith, c.loop-n-test.true, c.places_at-places.ensures.within.bits)

pub loop-n-preserved : goal.loop-n-preserved
loop-n-preserved g c =
    let f = g.F.Field in
    let o = f.ops in
    let a = c.args in
    let x = a.witnessed.now.exchange in
    let w = x.scripted.circuit.now in
    let s = x.scripted.script.now in
    let n = c.loop-n.n in
    let places = c.places_at-places.result in
    let are = c.places_at-places.ensures.places in
    let next : suc n ≡ n + 1 = omega arith in
    one_more o f.coding.element w s x.messages.now a.witnessed.now.w.now a.l n c.loop-n.claim c.after_round-claim.result (challenge_of o c.layer_of-layer.result.now n) (places.messages + 2 * n) (places.pads + 2 * n)
    c.loop-n.invariant (ap (λ (p : LayerPlaces). p.messages + 2 * n) are) (ap (λ (p : LayerPlaces). p.pads + 2 * n) are) (ap (λ y. challenge_of o y n) c.layer_of-layer.ensures.layer) c.after_round-claim.ensures
    ∙ ap (claim_after o f.coding.element w s x.messages.now a.witnessed.now.w.now a.l) next

pub returns : goal.returns
returns g c =
    let f = g.F.Field in
    let a = c.args in
    let x = a.witnessed.now.exchange in
    let w = x.scripted.circuit.now in
    let all : c.loop-n.n ≡ round_count w a.l = omega (arith, c.loop-n-test.false, c.loop-n.auto.n-end, ap (λ (p : LayerPlaces). p.bits) c.places_at-places.ensures.places) in
    c.loop-n.invariant ∙ ap (claim_after f.ops f.coding.element w x.scripted.script.now x.messages.now a.witnessed.now.w.now a.l) all
