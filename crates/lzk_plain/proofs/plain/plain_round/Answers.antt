use Rattle.std.proofs.Common.{◌≡◌, ◌+◌, length, sym, ap, ◌∙◌, arith, subst}
use Rattle.lzk_circuit.specs.Bits.{bits}
use Rattle.std.specs.Prelude.{None}
use Rattle.lzk_circuit.specs.Valid.{ArePlaced}
use Rattle.lzk_circuit.specs.Wires.{list_at}
use Rattle.lzk_layout.specs.Places.{width_at, bits_under}
use Rattle.lzk_layout.proofs.SizeLaws.{narrow}
use Rattle.lzk_sumcheck.specs.Coefficients.{terms_at}
use Rattle.lzk_sumcheck.specs.Layers.{layer_of_terms}
use Rattle.lzk_sumcheck.specs.Rounds as rounds
use Rattle.lzk_sumcheck.proofs.LayerShapes.{values_width, terms_is, terms_placed}
use Rattle.lzk_plain.proofs.plain.plain_round.Goals as goal

pub width-requires-after_bounds : goal.width-requires-after_bounds
width-requires-after_bounds g c κs within = omega (arith, c.requires.layer)

pub layer-requires-after_bounds : goal.layer-requires-after_bounds
layer-requires-after_bounds g c κs within = c.requires.layer

pub plain_sum-requires-clause-few : goal.plain_sum-requires-clause-few
plain_sum-requires-clause-few g c κs within = c.bits_of-bits.ensures.few

pub plain_sum-requires-clause-free : goal.plain_sum-requires-clause-free
plain_sum-requires-clause-free g c κs within =
    let few : c.bits_of-bits.result ≡ bits_under c.args.circuit.now c.args.l = c.bits_of-bits.ensures.bits ∙ ap bits c.width.ensures in
    omega (arith, few, c.requires.free)

pub bits_of-bits-requires : goal.bits_of-bits-requires
bits_of-bits-requires g c = omega (arith, c.width.ensures, narrow g.F.Field.ops c.args.circuit.now (c.args.l + 1) c.valid_laws.ensures)

pub plain_sum-requires-clause-size : goal.plain_sum-requires-clause-size
plain_sum-requires-clause-size g c κs within =
    omega (
      arith,
      ap length c.layer-2.ensures,
      values_width c.args.circuit.now c.args.values.now.wires (c.args.l + 1) c.requires.values (omega (arith, c.requires.layer)),
      narrow g.F.Field.ops c.args.circuit.now (c.args.l + 1) c.valid_laws.ensures,
    )

pub plain_sum-requires-clause-terms : goal.plain_sum-requires-clause-terms
plain_sum-requires-clause-terms g c κs within =
    let o = g.F.Field.ops in
    let w = c.args.circuit.now in
    let l = c.args.l in
    let below = ap length c.layer-2.ensures ∙ values_width w c.args.values.now.wires (l + 1) c.requires.values (omega (arith, c.requires.layer)) in
    subst (λ ts. ArePlaced (length c.args.weights.now) (length c.layer-2.result.now) None ts) (sym c.as_slice-terms.ensures)
    (subst (λ n. ArePlaced (length c.args.weights.now) n None c.layer.result.now.terms) (sym below)
    (subst (λ k. ArePlaced k (width_at w (l + 1)) None c.layer.result.now.terms) (sym c.requires.weights)
    (terms_placed w l c.layer.result.now c.layer.ensures o c.valid_laws.ensures)))

pub returns : goal.returns
returns g c =
    let o = g.F.Field.ops in
    let w = c.args.circuit.now in
    let l = c.args.l in
    let weights = c.args.weights.now in
    let bound = c.args.bound.now in
    let t = c.args.t in
    let few : c.bits_of-bits.result ≡ bits_under w l = c.bits_of-bits.ensures.bits ∙ ap bits c.width.ensures in
    record {
      round = c.plain_sum.ensures
          ∙ ap (λ ts. rounds.round o (layer_of_terms o ts c.args.beta weights c.layer-2.result.now c.bits_of-bits.result) bound t) (c.as_slice-terms.ensures ∙ terms_is w l c.layer.result.now c.layer.ensures)
          ∙ ap (λ values. rounds.round o (layer_of_terms o (terms_at w l) c.args.beta weights values c.bits_of-bits.result) bound t) c.layer-2.ensures
          ∙ ap (λ n. rounds.round o (layer_of_terms o (terms_at w l) c.args.beta weights (list_at c.args.values.now.wires (l + 1)) n) bound t) few;
    }
