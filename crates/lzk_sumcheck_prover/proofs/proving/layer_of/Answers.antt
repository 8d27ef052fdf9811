use Rattle.std.proofs.Common.{◌≡◌, ◌+◌, ◌^◌, [], length, refl, sym, ap, ◌∙◌, arith, subst}
use Rattle.std.specs.Prelude.{None, slice_index_or}
use Rattle.std.proofs.lemmas.List.{get_or_default}
use Rattle.lzk_circuit.specs.Valid.{ArePlaced}
use Rattle.lzk_circuit.proofs.BitLaws.{bits_enough}
use Rattle.lzk_layout.specs.Places.{width_at, bits_under, sent_at}
use Rattle.lzk_layout.proofs.PlaceLaws.{sent_within}
use Rattle.lzk_sumcheck.specs.Coefficients.{terms_at}
use Rattle.lzk_sumcheck.proofs.LayerShapes.{values_depth, values_width, terms_is, terms_placed}
use Rattle.lzk_sumcheck_rounds.specs.Orders.{IsOrderOf}
use Rattle.lzk_sumcheck_prover.proofs.proving.layer_of.Goals as goal

pub layer-requires-after_bounds : goal.layer-requires-after_bounds
layer-requires-after_bounds g c κs within = c.requires.layer

pub layer-requires-2-after_bounds : goal.layer-requires-2-after_bounds
layer-requires-2-after_bounds g c κs within =
    let on = c.args.given.now.on.now in
    omega (arith, c.requires.layer, values_depth on.circuit.now on.values.now.wires on.widths)

pub bounds-given-l : goal.bounds-given-l
bounds-given-l g c = omega (arith, c.requires.layer, c.requires.orders.count)

pub part-requires-after_bounds : goal.part-requires-after_bounds
part-requires-after_bounds g c κs within =
    let on = c.args.given.now.on.now in
    let w = on.circuit.now in
    let l = c.args.l in
    let begins : c.args.places.messages ≡ sent_at w l = ap (λ p. p.messages) c.requires.places in
    let few : c.args.places.bits ≡ bits_under w l = ap (λ p. p.bits) c.requires.places in
    omega (arith, begins, few, sent_within w l c.requires.layer, on.count)

pub invariant_of-result : goal.invariant_of-result
invariant_of-result g c =
    let on = c.args.given.now.on.now in
    let w = on.circuit.now in
    let l = c.args.l in
    let few : c.args.places.bits ≡ bits_under w l = ap (λ p. p.bits) c.requires.places in
    let below : length c.layer-2.result.now ≡ width_at w (l + 1) = ap length c.layer-2.ensures ∙ values_width w on.values.now.wires (l + 1) on.widths (omega (arith, c.requires.layer)) in
    record {
      fits = omega (arith, below, ap (λ n. 2 ^ n) few, bits_enough (width_at w (l + 1)));
      count = c.part.ensures.length;
    }

pub returns-clause-terms : goal.returns-clause-terms
returns-clause-terms g c = c.as_slice.ensures ∙ terms_is c.args.given.now.on.now.circuit.now c.args.l c.layer.result.now c.layer.ensures

pub returns-clause-placed : goal.returns-clause-placed
returns-clause-placed g c =
    let w = c.args.given.now.on.now.circuit.now in
    let l = c.args.l in
    subst (ArePlaced (width_at w l) (width_at w (l + 1)) None) (sym c.as_slice.ensures) (terms_placed w l c.layer.result.now c.layer.ensures g.F.Field.ops c.valid_laws.ensures)

pub returns-clause-order : goal.returns-clause-order
returns-clause-order g c =
    let l = c.args.l in
    let orders = c.args.given.now.orders.now in
    let here : c.as_slice-2.result.now ≡ slice_index_or orders l [] =
    c.as_slice-2.ensures ∙ get_or_default orders l c.index-given-l.result [] (omega (arith, c.requires.layer, c.requires.orders.count)) in
    subst (IsOrderOf (terms_at c.args.given.now.on.now.circuit.now l)) (sym here) (c.requires.orders.each l c.requires.layer)

pub returns-clause-values : goal.returns-clause-values
returns-clause-values g c = c.layer-2.ensures

pub returns-clause-bits : goal.returns-clause-bits
returns-clause-bits g c = refl

pub returns-clause-pads : goal.returns-clause-pads
returns-clause-pads g c = c.part.ensures.entries
