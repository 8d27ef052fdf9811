use Rattle.std.proofs.Common.{◌∙◌, ◌+◌, ap, length}
use Rattle.lzk_goldilocks.specs.Elements.{ops}
use Rattle.lzk_policy_circuit.proofs.TextClaims.{distance_makes, distance_value}
use Rattle.lzk_policy_circuit.proofs.texts.distance.Goals as goal

pub returns-clause-makes : goal.returns-clause-makes
returns-clause-makes c =
    distance_makes (length c.args.xs.now) c.args.s.now c.inner.new.s c.constant.new.self c.weighted.new.self c.weighted-2.new.self c.in_ok-product.product c.in_ok-own.own c.in_ok-both.both c.in_ok-node.node
    c.in_ok-product.ensures.makes c.in_ok-own.ensures.makes c.in_ok-both.ensures.makes c.in_ok-node.ensures.makes

pub returns-clause-value : goal.returns-clause-value
returns-clause-value c = λ p q a.
    distance_value (1 + length c.args.xs.now) c.args.s.now c.inner.new.s c.constant.new.self c.weighted.new.self c.weighted-2.new.self c.args.norm c.in_ok-product.product c.in_ok-own.own c.in_ok-both.both c.in_ok-node.node
    c.one.result c.one-2.result c.one-3.result c.neg.result c.text_squares.result c.args.xs.now c.args.text.now p q a c.requires.nodes.0 c.one.ensures c.one-2.ensures c.one-3.ensures (c.neg.ensures ∙ ap ops.neg c.of_word.ensures) c.text_squares.ensures
    c.in_ok-product.ensures.makes c.in_ok-own.ensures.makes c.in_ok-both.ensures.makes (c.in_ok-product.ensures.value p q a) (c.in_ok-own.ensures.value p q) (c.in_ok-both.ensures.value p q) (c.in_ok-node.ensures.value p q)
