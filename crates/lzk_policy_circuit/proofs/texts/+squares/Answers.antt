use Rattle.std.proofs.Common.{◌≡◌, ◌+◌, ◌*◌, ◌∷◌, ap, arith, length}
use Rattle.lzk_policy_circuit.proofs.TextClaims.{squares_makes, squares_value, first_node}
use Rattle.lzk_policy_circuit.proofs.texts.+squares.Goals as goal

pub returns-clause-makes : goal.returns-clause-makes
returns-clause-makes t c =
    let rest = c.in-Some.rest.now in
    let e : c.args.xs.now ≡ c.in-Some.field-0-0.now ∷ rest = c.in-Some.ensures.cases.0 in
    squares_makes (length rest) (length c.args.xs.now) c.args.s.now c.squares.new.s c.product.new.self c.weighted.new.self c.in_ok-others.others c.in_ok-square.square c.in_ok-node.node
    c.in_ok-others.ensures.makes c.in_ok-square.ensures.makes c.in_ok-node.ensures.makes (omega (arith, ap length e))

pub returns-clause-value : goal.returns-clause-value
returns-clause-value t c = λ p q a.
    let rest = c.in-Some.rest.now in
    let x = c.in-Some.field-0-0.now in
    let e : c.args.xs.now ≡ x ∷ rest = c.in-Some.ensures.cases.0 in
    squares_value (1 + 2 * length rest) c.args.s.now c.squares.new.s c.product.new.self c.weighted.new.self x c.in_ok-others.others c.in_ok-square.square c.in_ok-node.node c.one.result c.one-2.result rest c.args.xs.now p q a
    (first_node c.args.s.now x rest c.args.xs.now e c.requires.nodes) c.one.ensures c.one-2.ensures c.in_ok-others.ensures.makes c.in_ok-square.ensures.makes (c.in_ok-others.ensures.value p q a) (c.in_ok-square.ensures.value p q) (c.in_ok-node.ensures.value p q) e
