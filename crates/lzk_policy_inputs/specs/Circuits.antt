-- The circuits that a policy has.
use Rattle.std.specs.Prelude.{◌≡◌, ◌↔◌, List, length}
use Rattle.lzk_circuit.specs.Checks.{IsSatisfied}
use Rattle.lzk_circuit.specs.Valid.{Wiring}
use Rattle.lzk_circuit.specs.Wires.{inputs_of}
use Rattle.lzk_goldilocks.specs.Elements.{ops, number}
use Rattle.lzk_goldilocks.specs.declared.element.Gold.{Gold}
use Rattle.lzk_policy.specs.Policies.{Contents}
use Rattle.lzk_policy_circuit.specs.Meaning.{public_count}
use Rattle.lzk_policy_circuit.specs.Layout.{private_count}
use Rattle.lzk_policy_circuit.specs.Met.{Satisfy}

-- satisfied exactly by the inputs that satisfy the policy: what policy_circuit ensures of the circuit that it gives
pub record IsCircuitOf (p : Contents) (c : Wiring Gold) : Type 0 where
  pub satisfied : (public private : List Gold) → length public ≡ public_count p → length private ≡ private_count p
      → IsSatisfied ops number c.layers (inputs_of ops public private) ↔ Satisfy p public private
