use Rattle.std.proofs.Common.{◌≡◌, ◌∙◌, ◌+◌, ◌∷◌, ap, length}
use Rattle.lzk_goldilocks.specs.Elements.{of_number}
use Rattle.lzk_policy_circuit.proofs.TextClaims.{inner_value, first_node}
use Rattle.lzk_policy_circuit.proofs.texts.+inner.Goals as goal

pub returns-clause-value : goal.returns-clause-value
returns-clause-value t c = λ p q a.
    let rest = c.in-Some.nodes.now in
    let x = c.in-Some.field-0-0.now in
    let bytes = c.in-Some-split_first.bytes.now in
    let b = c.in-Some-split_first.field-0-0.now in
    let e : c.args.xs.now ≡ x ∷ rest = c.in-Some.ensures.cases.0 in
    let f : c.args.text.now ≡ b ∷ bytes = c.in-Some-split_first.ensures.cases.0 in
    inner_value (1 + length rest) c.args.s.now c.inner.new.s c.weighted.new.self x c.in_ok-others.others c.in_ok-node.node b c.of_word.result c.one.result rest c.args.xs.now bytes c.args.text.now p q a
    (first_node c.args.s.now x rest c.args.xs.now e c.requires.nodes) (c.of_word.ensures ∙ ap of_number c.from.ensures) c.one.ensures c.in_ok-others.ensures.makes (c.in_ok-others.ensures.value p q a) (c.in_ok-node.ensures.value p q) e f
