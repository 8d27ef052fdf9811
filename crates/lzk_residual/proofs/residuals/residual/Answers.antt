use Rattle.std.proofs.Common.{◌≡◌, refl, ap, ◌∙◌, arith}
use Rattle.lzk_layout.specs.Places.{depth}
use Rattle.lzk_sumcheck.specs.Coefficients.{coefficients}
use Rattle.lzk_sumcheck.specs.Script.{point_a, point_b}
use Rattle.lzk_accept.specs.Residuals.{inputs_at}
use Rattle.lzk_accept.proofs.ResidualLaws.{residual-form}
use Rattle.lzk_residual.proofs.ResidualLaws.{residual_layer, residual_inputs}
use Rattle.lzk_residual.proofs.residuals.residual.Goals as goal

pub after_rounds-claim-requires-clause-layer : goal.after_rounds-claim-requires-clause-layer
after_rounds-claim-requires-clause-layer g c κs within = omega (arith, c.if-i-depth.true, c.depth.ensures.depth)

pub bound_of-bound-requires-clause-layer : goal.bound_of-bound-requires-clause-layer
bound_of-bound-requires-clause-layer g c κs within = omega (arith, c.if-i-depth.true, c.depth.ensures.depth)

pub product_of-requires-clause-layer : goal.product_of-requires-clause-layer
product_of-requires-clause-layer g c κs within = omega (arith, c.if-i-depth.true, c.depth.ensures.depth)

pub inputs_of-inputs-requires-clause-room : goal.inputs_of-inputs-requires-clause-room
inputs_of-inputs-requires-clause-room g c κs within = c.requires.room

pub claims_on-first-requires-clause-layer : goal.claims_on-first-requires-clause-layer
claims_on-first-requires-clause-layer g c κs within = c.requires.i

pub returns-then-i-depth-clause-room : goal.returns-then-i-depth-clause-room
returns-then-i-depth-clause-room g c = refl

pub returns-else-i-depth-clause-room : goal.returns-else-i-depth-clause-room
returns-else-i-depth-clause-room g c = c.inputs_of-inputs.ensures.room

pub returns-then-i-depth-clause-value : goal.returns-then-i-depth-clause-value
returns-then-i-depth-clause-value g c =
    let f = g.F.Field in
    let a = c.args in
    residual_layer f.ops f.laws.ring f.coding.element a.circuit.now (coefficients f.ops a.circuit.now a.script.now) a.public.now a.script.now a.messages.now a.w.now a.i
    c.sub.result c.after_rounds-claim.result c.bound_of-bound.result c.product_of.result c.mul.result (omega (arith, c.depth.ensures.depth))
    c.after_rounds-claim.ensures c.bound_of-bound.ensures c.product_of.ensures c.mul.ensures c.sub.ensures

pub returns-then-i-depth-clause-affine : goal.returns-then-i-depth-clause-affine
returns-then-i-depth-clause-affine g c =
    let f = g.F.Field in
    let a = c.args in
    residual-form f.ops f.laws.ring f.coding.element a.circuit.now (coefficients f.ops a.circuit.now a.script.now) a.public.now a.script.now a.messages.now a.i c.requires.i

pub returns-else-i-depth-clause-value : goal.returns-else-i-depth-clause-value
returns-else-i-depth-clause-value g c =
    let f = g.F.Field in
    let o = f.ops in
    let a = c.args in
    let w = a.circuit.now in
    let s = a.script.now in
    let last : depth w ≡ a.i = omega (arith, c.depth.ensures.depth, c.requires.i) in
    let at = inputs_at o w a.public.now a.w.now in
    residual_inputs o f.laws.ring f.coding.element w (coefficients o w s) a.public.now s a.messages.now a.w.now a.i
    c.sub-else-i-depth-2.result c.sub-else-i-depth.result c.inputs_of-inputs.result c.claims_on-first.result.0 c.claims_on-first.result.1 c.mul-else-i-depth.result (omega (arith, last))
    (c.inputs_of-inputs.ensures.value ∙ ap (λ l. o.plus (at (point_a o s l)) (o.times s.gamma (at (point_b o s l)))) last)
    c.claims_on-first.ensures.first c.claims_on-first.ensures.second c.sub-else-i-depth.ensures c.mul-else-i-depth.ensures c.sub-else-i-depth-2.ensures

pub returns-else-i-depth-clause-affine : goal.returns-else-i-depth-clause-affine
returns-else-i-depth-clause-affine g c =
    let f = g.F.Field in
    let a = c.args in
    residual-form f.ops f.laws.ring f.coding.element a.circuit.now (coefficients f.ops a.circuit.now a.script.now) a.public.now a.script.now a.messages.now a.i c.requires.i
