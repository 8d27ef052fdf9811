use Rattle.std.proofs.Common.{◌≤◌, length, refl, arith}
use Rattle.std.proofs.lemmas.List.{length-take-le}
use Rattle.lzk_circuit.specs.Bits.{bits}
use Rattle.lzk_layout.specs.Places.{width_at}
use Rattle.lzk_accept.proofs.ShapeLaws.{input_bits}
use Rattle.lzk_residual.proofs.inputs.inputs_of.Goals as goal

pub split_at_mut-values-requires : goal.split_at_mut-values-requires
split_at_mut-values-requires g c =
    let w = c.args.witnessed.now.exchange.scripted.circuit.now in
    let d = c.depth-depth in
    let wide = input_bits g.F.Field.ops w d.result (bits (width_at w d.result)) d.ensures.valid d.ensures.depth refl in
    let fits : c.privates.result ≤ length c.args.witnessed.now.w.now = omega (arith, c.args.witnessed.now.count, c.privates.ensures) in
    omega (arith, wide.narrow, c.args.witnessed.now.exchange.publics, c.requires.room, c.privates.ensures, length-take-le c.privates.result c.args.witnessed.now.w.now fits)

pub set_inputs-requires-after_bounds : goal.set_inputs-requires-after_bounds
set_inputs-requires-after_bounds g c κs within = c.split_at_mut-values.ensures.front_len

pub points_on-requires-clause-layer : goal.points_on-requires-clause-layer
points_on-requires-clause-layer g c κs within = omega (arith, c.depth-depth.ensures.depth)

pub extension_of-first-requires-clause-few : goal.extension_of-first-requires-clause-few
extension_of-first-requires-clause-few g c κs within =
    let w = c.args.witnessed.now.exchange.scripted.circuit.now in
    let d = c.depth-depth in
    let wide = input_bits g.F.Field.ops w d.result (bits (width_at w d.result)) d.ensures.valid d.ensures.depth refl in
    let fits : c.privates.result ≤ length c.args.witnessed.now.w.now = omega (arith, c.args.witnessed.now.count, c.privates.ensures) in
    omega (arith, wide.narrow, c.args.witnessed.now.exchange.publics, c.set_inputs.auto.inputs, c.split_at_mut-values.ensures.front_len, c.privates.ensures, length-take-le c.privates.result c.args.witnessed.now.w.now fits)

pub extension_of-second-requires-clause-few : goal.extension_of-second-requires-clause-few
extension_of-second-requires-clause-few g c κs within =
    let w = c.args.witnessed.now.exchange.scripted.circuit.now in
    let d = c.depth-depth in
    let wide = input_bits g.F.Field.ops w d.result (bits (width_at w d.result)) d.ensures.valid d.ensures.depth refl in
    let fits : c.privates.result ≤ length c.args.witnessed.now.w.now = omega (arith, c.args.witnessed.now.count, c.privates.ensures) in
    omega (arith, wide.narrow, c.args.witnessed.now.exchange.publics, c.set_inputs.auto.inputs, c.split_at_mut-values.ensures.front_len, c.privates.ensures, length-take-le c.privates.result c.args.witnessed.now.w.now fits)
