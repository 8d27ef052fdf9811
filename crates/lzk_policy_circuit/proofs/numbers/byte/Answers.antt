use Rattle.std.proofs.Common.{◌∙◌}
use Rattle.lzk_policy_circuit.proofs.Adding.{bytes_worth}
use Rattle.lzk_policy_circuit.proofs.numbers.byte.Goals as goal

pub returns-clause-value : goal.returns-clause-value
returns-clause-value c = λ p q a.
    c.in_ok-node.ensures.value p q a
    ∙ bytes_worth _ _ _ _ _ _ _ _ q c.args.at
    (c.private.ensures.value p q a) (c.private-2.ensures.value p q a) (c.private-3.ensures.value p q a) (c.private-4.ensures.value p q a)
    (c.private-5.ensures.value p q a) (c.private-6.ensures.value p q a) (c.private-7.ensures.value p q a) (c.private-8.ensures.value p q a)
