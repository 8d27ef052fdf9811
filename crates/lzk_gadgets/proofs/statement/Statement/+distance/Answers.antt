use Rattle.std.proofs.Common.{◌≡◌, ◌+◌, ◌*◌, arith, ap, length, ◌∷◌}
use Rattle.lzk_gadgets.proofs.InverseLaws.{distance_makes, distance_value}
use Rattle.lzk_gadgets.proofs.statement.Statement.+distance.Goals as goal

pub returns-clause-makes : goal.returns-clause-makes
returns-clause-makes t c =
    let rest = c.in-Some.rest.now in
    let e : c.args.choices.now ≡ c.in-Some.field-0-0.now ∷ rest = c.in-Some.ensures.cases.0 in
    distance_makes (length rest) (length c.args.choices.now) c.args.self.now c.distance.new.self c.constant-2.new.self c.difference.new.self c.product.new.self
    c.in_ok-others.others c.in_ok-own.own c.in_ok-difference.difference c.in_ok-node.node
    c.in_ok-others.ensures.makes c.in_ok-own.ensures.makes c.in_ok-difference.ensures.makes c.in_ok-node.ensures.makes (omega (arith, ap length e))

pub returns-clause-value : goal.returns-clause-value
returns-clause-value t c = λ p q a.
    let rest = c.in-Some.rest.now in
    let choice = c.in-Some.field-0-0.now in
    let e : c.args.choices.now ≡ choice ∷ rest = c.in-Some.ensures.cases.0 in
    distance_value (1 + 3 * length rest) c.args.self.now c.distance.new.self c.constant-2.new.self c.difference.new.self c.product.new.self c.args.x
    c.in_ok-others.others c.in_ok-own.own c.in_ok-difference.difference c.in_ok-node.node choice rest c.args.choices.now p q a c.requires.node
    c.in_ok-others.ensures.makes c.in_ok-own.ensures.makes c.in_ok-difference.ensures.makes c.in_ok-node.ensures.makes
    (c.in_ok-others.ensures.value p q a) (c.in_ok-own.ensures.value p q) (c.in_ok-difference.ensures.value p q) (c.in_ok-node.ensures.value p q) e
