-- Inputs that satisfy the circuit of a policy.
use Rattle.std.proofs.Common.{◌≡◌, ℕ, ◌≤◌, List, length, take, drop, Some, None, subst, sym, ◌∙◌, arith}
use Rattle.std.proofs.lemmas.List.{length-drop, length-take-le, take-append-drop}
use Rattle.lzk_circuit.specs.Checks.{IsSatisfied}
use Rattle.lzk_circuit.specs.Valid.{Wiring}
use Rattle.lzk_circuit.specs.Wires.{IsFirstNonzero, inputs_of}
use Rattle.lzk_field.specs.Ring.{Ops}
use Rattle.lzk_goldilocks.specs.Elements.{ops, number}
use Rattle.lzk_goldilocks.specs.declared.element.Gold.{Gold}
use Rattle.lzk_policy.specs.Policies.{Contents}
use Rattle.lzk_policy_inputs.specs.Both.{Inputs}
use Rattle.lzk_policy_texts.specs.Circuits.{IsPolicyCircuit}
use Rattle.lzk_credential_run.specs.Proofs.{AreProvable, AreProvableOver}

satisfies : (p : Contents) (c : Wiring Gold) (i : Inputs) → IsPolicyCircuit p c → AreProvable p i → IsSatisfied ops number c.layers (inputs_of ops i.public i.private)
satisfies p c i is are =
    let long : 8 ≤ length i.public = omega (arith, are.publics) in
    let words : length (take 8 i.public) ≡ 8 = length-take-le 8 i.public long in
    let others : length (drop 8 i.public) ≡ _ = length-drop 8 i.public ∙ omega (arith, are.publics) in
    subst (λ (xs : List Gold). IsSatisfied ops number c.layers (inputs_of ops xs i.private)) (take-append-drop 8 i.public) ((is.satisfied (take 8 i.public) (drop 8 i.public) i.private words others are.privates).1 are.satisfied)

pub provable : (p : Contents) (c : Wiring Gold) (i : Inputs) → IsPolicyCircuit p c → AreProvable p i → AreProvableOver c i
provable p c i is are = record { publics = are.publics ∙ sym is.publics; privates = are.privates ∙ sym is.privates; satisfied = satisfies p c i is are }

-- checks that are all 0 have none that is not
pub none_nonzero : {A : Type 0} (o : Ops A) (checks : List A) (first : ℕ × A) → IsFirstNonzero o checks None → IsFirstNonzero o checks (Some first) → ⊥
none_nonzero o checks first none some = some.2 (sym some.1 ∙ none first.0 some.0)
