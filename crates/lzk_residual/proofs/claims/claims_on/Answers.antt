use Rattle.std.proofs.Common.{◌≡◌, ◌+◌, ◌-◌, suc, ap, ◌∙◌, arith}
use Rattle.lzk_layout.specs.declared.places.LayerPlaces.{LayerPlaces}
use Rattle.lzk_accept.specs.Residuals.{padded, claim_a, claim_b}
use Rattle.lzk_residual.proofs.claims.claims_on.Goals as goal

pub overflow_sub-l : goal.overflow_sub-l
overflow_sub-l g c = omega (arith, c.if-l-eq0.false)

pub places_at-above-requires-after_bounds : goal.places_at-above-requires-after_bounds
places_at-above-requires-after_bounds g c κs within = omega (arith, c.requires.layer, c.if-l-eq0.false)

pub returns-clause-first : goal.returns-clause-first
returns-clause-first g c =
    let o = g.F.Field.ops in
    let x = c.args.witnessed.now in
    let ms = x.exchange.messages.now in
    let next : suc (c.args.l - 1) ≡ c.args.l = omega (arith, c.if-l-eq0.false) in
    c.padded-first.ensures ∙ ap (λ (p : LayerPlaces). padded o ms x.w.now p.factors_sent p.factors) c.places_at-above.ensures.places ∙ ap (claim_a o x.exchange.scripted.circuit.now ms x.w.now) next

pub returns-clause-second : goal.returns-clause-second
returns-clause-second g c =
    let o = g.F.Field.ops in
    let x = c.args.witnessed.now in
    let ms = x.exchange.messages.now in
    let next : suc (c.args.l - 1) ≡ c.args.l = omega (arith, c.if-l-eq0.false) in
    c.padded-second.ensures ∙ ap (λ (p : LayerPlaces). padded o ms x.w.now (p.factors_sent + 1) (p.factors + 1)) c.places_at-above.ensures.places ∙ ap (claim_b o x.exchange.scripted.circuit.now ms x.w.now) next
