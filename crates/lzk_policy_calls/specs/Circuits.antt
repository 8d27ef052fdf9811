-- What a program is told that wants a policy's circuit.
use Rattle.std.specs.Prelude.{◌⊎◌, ℕ, List, Result}
use Rattle.lzk_policy.specs.Policies.{Contents}
use Rattle.lzk_policy_texts.specs.Circuits.{IsPolicyFile, PassesLimit}
use Rattle.lzk_policy_calls.specs.declared.refusal.PolicyRefusal.{PolicyRefusal}
use Rattle.lzk_policy_calls.specs.declared.refusal.PolicyRefusal.TheVariants.{OverLimit, OutOfMemory}
use Rattle.lzk_policy_calls.specs.Policies.{IsPolicyText, LacksPolicy}
use Rattle.lzk_policy_calls.specs.Room.{Tells}

-- the bytes are the file of a circuit that shows what the policy of a text says
abbrev pub IsCircuitFile : List ℕ → List ℕ → Type 0
IsCircuitFile text bytes = (p : Contents) × IsPolicyText text p × IsPolicyFile p bytes

-- the policy's circuit would pass a limit, or there is no memory
abbrev pub IsOver : Contents → PolicyRefusal → Type 0
IsOver p OverLimit = PassesLimit p
IsOver p OutOfMemory = Unit {0}
IsOver p other = ⊥

-- why a text gives no circuit: it gives no policy, or this passes a limit
abbrev pub LacksCircuit : List ℕ → PolicyRefusal → Type 0
LacksCircuit text refusal = LacksPolicy text refusal ⊎ ((p : Contents) × IsPolicyText text p × IsOver p refusal)

abbrev pub MakesCircuit : List ℕ → List ℕ → List ℕ → Result ℕ PolicyRefusal → Type 0
MakesCircuit text = Tells (IsCircuitFile text) (LacksCircuit text)
