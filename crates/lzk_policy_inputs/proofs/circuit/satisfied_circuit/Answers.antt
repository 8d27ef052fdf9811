use Rattle.std.proofs.Common.{◌≡◌, List, length}
use Rattle.std.specs.Prelude.{◌↔◌}
use Rattle.lzk_circuit.specs.Checks.{IsSatisfied}
use Rattle.lzk_circuit.specs.Wires.{inputs_of}
use Rattle.lzk_goldilocks.specs.Elements.{ops, number}
use Rattle.lzk_goldilocks.specs.declared.element.Gold.{Gold}
use Rattle.lzk_policy_circuit.specs.Meaning.{public_count}
use Rattle.lzk_policy_circuit.specs.Layout.{private_count}
use Rattle.lzk_policy_circuit.specs.Met.{Satisfy}
use Rattle.lzk_policy_circuit.proofs.Answering.{ok_all, ok_map}
use Rattle.lzk_policy_inputs.proofs.circuit.satisfied_circuit.Goals as goal

pub returns-clause-circuit : goal.returns-clause-circuit
returns-clause-circuit c =
    let p = c.args.policy.now in
    let B = (public : List Gold) × (private : List Gold) × (length public ≡ public_count p) × (length private ≡ private_count p) in
    ok_map c.policy_circuit.result _ _
    (ok_all c.policy_circuit.result (λ (b : B) w. IsSatisfied ops number w.layers (inputs_of ops b.0 b.1) ↔ Satisfy p b.0 b.1)
    (λ b. c.policy_circuit.ensures.satisfied b.0 b.1 b.2 b.3))
    (λ w h. record { satisfied = λ public private np nq. h (public, private, np, nq) })
