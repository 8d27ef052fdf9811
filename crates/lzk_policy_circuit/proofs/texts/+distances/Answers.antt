use Rattle.std.proofs.Common.{◌≡◌, ◌∙◌, ◌+◌, ◌*◌, ◌∷◌, ap, arith, length}
use Rattle.lzk_goldilocks.specs.Elements.{ops}
use Rattle.lzk_gadgets.specs.Claims.{value, values}
use Rattle.lzk_policy_circuit.specs.Squares.{distance_by}
use Rattle.lzk_policy_circuit.proofs.TextClaims.{distances_makes, distances_value, nodes_kept}
use Rattle.lzk_policy_circuit.proofs.texts.+distances.Goals as goal

pub distance-requires : goal.distance-requires
distance-requires t c = record {
  nodes = nodes_kept (1 + (5 + length c.args.xs.now) * length c.in-Some.rest.now) c.args.s.now c.distances.new.s c.args.norm c.args.xs.now c.in_ok-others.ensures.makes.keeps c.requires.nodes;
}

pub returns-clause-makes : goal.returns-clause-makes
returns-clause-makes t c =
    let rest = c.in-Some.rest.now in
    let e : c.args.texts.now ≡ c.in-Some.text.now ∷ rest = c.in-Some.ensures.cases.0 in
    distances_makes (length c.args.xs.now) (length rest) (length c.args.texts.now) c.args.s.now c.distances.new.s c.distance.new.s c.product.new.self c.in_ok-others.others c.in_ok-own.own c.in_ok-node.node
    c.in_ok-others.ensures.makes c.in_ok-own.ensures.makes c.in_ok-node.ensures.makes (omega (arith, ap length e))

pub returns-clause-value : goal.returns-clause-value
returns-clause-value t c = λ p q a.
    let n = length c.args.xs.now in
    let u = c.distances.new.s in
    let rest = c.in-Some.rest.now in
    let e : c.args.texts.now ≡ c.in-Some.text.now ∷ rest = c.in-Some.ensures.cases.0 in
    distances_value (1 + (5 + n) * length rest) (4 + n) c.args.s.now c.distances.new.s c.distance.new.s c.product.new.self c.args.norm c.in_ok-others.others c.in_ok-own.own c.in_ok-node.node c.args.xs.now c.in-Some.text.now rest c.args.texts.now p q a
    c.requires.nodes.0 c.requires.nodes.1 c.in_ok-others.ensures.makes c.in_ok-own.ensures.makes (c.in_ok-others.ensures.value p q a)
    (λ b. c.in_ok-own.ensures.value p q b ∙ ap (distance_by (value ops u p q c.args.norm) (values ops u p q c.args.xs.now)) c.text.ensures.text) (c.in_ok-node.ensures.value p q) e
