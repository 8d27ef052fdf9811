-- What the circuit of a policy shows.
use Rattle.std.specs.Prelude.{◌≡◌, ◌≤◌, ℕ, ◌↔◌, List, ◌++◌, length, Result, Ok, Err}
use Rattle.lzk_goldilocks.specs.Elements.{ops, number}
use Rattle.lzk_goldilocks.specs.declared.element.Gold.{Gold}
use Rattle.lzk_circuit.specs.Checks.{IsSatisfied}
use Rattle.lzk_circuit.specs.Valid.{Wiring}
use Rattle.lzk_circuit.specs.Wires.{inputs_of}
use Rattle.lzk_circbytes.specs.declared.any.AnyCircuit.TheVariants.{Gold as OverGold}
use Rattle.lzk_circbytes.specs.Files.{CircuitBytes}
use Rattle.lzk_level.specs.declared.fault.LevelError.TheVariants as levels
use Rattle.lzk_circuit_beside.specs.declared.error.BesideError.TheVariants as besides
use Rattle.lzk_policy.specs.Policies.{Contents}
use Rattle.lzk_policy_circuit.specs.declared.error.PolicyCircuitError.TheVariants as errors
use Rattle.lzk_policy_circuit.specs.Meaning.{public_count, values_of}
use Rattle.lzk_sha_path.specs.declared.error.PathError.TheVariants as paths
use Rattle.lzk_policy_inputs.specs.declared.root_error.RootedError.{RootedError}
use Rattle.lzk_policy_inputs.specs.declared.root_error.RootedError.TheVariants as roots
use Rattle.lzk_policy_inputs.specs.Causes.{IsCredentialCause}
use Rattle.lzk_policy_inputs.specs.Hashes.{hash_count, most_hashes}
use Rattle.lzk_policy_inputs.specs.Depths.{IsShownBy, SatisfyAt, private_count}
use Rattle.lzk_policy_texts.specs.declared.error.PolicyProofError.{PolicyProofError}
use Rattle.lzk_policy_texts.specs.declared.error.PolicyProofError.TheVariants.{Limit, OutOfMemory}

-- with these words and numbers, some private inputs satisfy the circuit exactly where there is a record whose digest or
-- root, as the policy says, the words are, and for which all that is shown is true with the numbers
abbrev pub Shows : Wiring Gold → Contents → Type 0
Shows c p =
    (words values : List Gold) → length words ≡ 8 → length values ≡ values_of p.shows →
    ((private : List Gold) × (length private ≡ c.privates) ×
    IsSatisfied ops number c.layers (inputs_of ops (words ++ values) private))
    ↔ ((m : List ℕ) × IsShownBy p m words values)

-- which inputs satisfy the circuit
abbrev pub IsSatisfiedBy : Wiring Gold → Contents → Type 0
IsSatisfiedBy c p =
    (words values private : List Gold) → length words ≡ 8 → length values ≡ values_of p.shows →
    length private ≡ private_count p.depth p →
    IsSatisfied ops number c.layers (inputs_of ops (words ++ values) private)
    ↔ SatisfyAt p.depth p words values private

-- the circuit shows what a policy says
pub record IsPolicyCircuit (p : Contents) (c : Wiring Gold) : Type 0 where
  pub few : hash_count p ≤ most_hashes
  pub publics : c.publics ≡ public_count p
  pub privates : c.privates ≡ private_count p.depth p
  pub shows : Shows c p
  pub satisfied : IsSatisfiedBy c p

-- the bytes are the file of a circuit that shows what a policy says
pub record IsPolicyFile (p : Contents) (bytes : List ℕ) : Type 0 where
  pub circuit : Wiring Gold
  pub is : IsPolicyCircuit p circuit
  pub file : CircuitBytes (OverGold circuit) bytes

-- a limit of a policy's circuit, and not want of memory
abbrev pub IsLimit : Contents → RootedError → Type 0
IsLimit p (roots.Policy (errors.Statement levels.OutOfMemory)) = ⊥
IsLimit p (roots.Policy (errors.Beside besides.OutOfMemory)) = ⊥
IsLimit p (roots.Policy errors.OutOfMemory) = ⊥
IsLimit p (roots.Path (paths.Statement levels.OutOfMemory)) = ⊥
IsLimit p (roots.Path (paths.Beside besides.OutOfMemory)) = ⊥
IsLimit p (roots.Path paths.OutOfMemory) = ⊥
IsLimit p (roots.Beside besides.OutOfMemory) = ⊥
IsLimit p roots.OutOfMemory = ⊥
IsLimit p cause = IsCredentialCause p cause

-- the policy's circuit would pass a limit
abbrev pub PassesLimit : Contents → Type 0
PassesLimit p = (cause : RootedError) × IsLimit p cause

-- such a circuit, or the policy's would pass a limit, or there is no memory
abbrev pub MakesCircuit : Contents → Result (Wiring Gold) PolicyProofError → Type 0
MakesCircuit p (Ok c) = IsPolicyCircuit p c
MakesCircuit p (Err Limit) = PassesLimit p
MakesCircuit p (Err OutOfMemory) = Unit {0}
