-- When a policy gives no circuit.
use Rattle.std.specs.Prelude.{List, ℕ, ◌<◌}
use Rattle.lzk_circuit.specs.Limits.{most_privates}
use Rattle.lzk_goldilocks.specs.declared.element.Gold.{Gold}
use Rattle.lzk_circuit.specs.Valid.{Wiring}
use Rattle.lzk_level.specs.Nodes.{Nodes}
use Rattle.lzk_level.specs.Bounds.{IsLevelError}
use Rattle.lzk_circuit_beside.specs.Levels.{IsCause}
use Rattle.lzk_policy_circuit.specs.declared.error.PolicyCircuitError.{PolicyCircuitError}
use Rattle.lzk_policy_circuit.specs.declared.error.PolicyCircuitError.TheVariants.{Statement, Beside, Privates, OutOfMemory}
use Rattle.lzk_policy.specs.Policies.{Contents}
use Rattle.lzk_policy_circuit.specs.Layout.{private_count}

-- nodes pass a limit of circuits, or two circuits do side by side, or memory ran out
abbrev pub IsPartCause : PolicyCircuitError → Type 0
IsPartCause (Statement e) = (nodes : Nodes Gold) × (outputs : List ℕ) × IsLevelError nodes outputs e
IsPartCause (Beside e) = (first : Wiring Gold) × (second : Wiring Gold) × IsCause first second e
IsPartCause Privates = ⊥
IsPartCause OutOfMemory = Unit {0}

-- or the policy's circuit would have too many private inputs
abbrev pub IsPolicyCause : Contents → PolicyCircuitError → Type 0
IsPolicyCause p (Statement e) = IsPartCause (Statement e)
IsPolicyCause p (Beside e) = IsPartCause (Beside e)
IsPolicyCause p Privates = most_privates < private_count p
IsPolicyCause p OutOfMemory = Unit {0}
