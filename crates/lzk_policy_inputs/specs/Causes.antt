-- When a policy and a depth give no circuit.
use Rattle.std.specs.Prelude.{ℕ, ◌<◌, ◌≤◌}
use Rattle.lzk_circuit.specs.Limits.{most_privates}
use Rattle.lzk_circuit_beside.specs.Levels.{IsCause}
use Rattle.lzk_circuit.specs.Valid.{Wiring}
use Rattle.lzk_goldilocks.specs.declared.element.Gold.{Gold}
use Rattle.lzk_policy.specs.Policies.{Contents}
use Rattle.lzk_policy_circuit.specs.Causes.{IsPolicyCause}
use Rattle.lzk_sha_path.specs.Causes.{IsPathCause}
use Rattle.lzk_policy_inputs.specs.Hashes.{hash_count, most_hashes}
use Rattle.lzk_policy_inputs.specs.Rooted.{private_count}
use Rattle.lzk_policy_inputs.specs.declared.root_error.RootedError.{RootedError}
use Rattle.lzk_policy_inputs.specs.declared.root_error.RootedError.TheVariants.{Hashes, Policy, Path, Privates, Beside, OutOfMemory}

-- the policy gives none, or the depth does, or there are too many private inputs, or the two do not stand side by side,
-- or memory ran out
abbrev pub IsRootedCause : Contents → ℕ → RootedError → Type 0
IsRootedCause p depth Hashes = ⊥
IsRootedCause p depth (Policy e) = IsPolicyCause p e
IsRootedCause p depth (Path e) = IsPathCause depth e
IsRootedCause p depth Privates = most_privates < private_count p depth
IsRootedCause p depth (Beside e) = (first : Wiring Gold) × (second : Wiring Gold) × IsCause first second e
IsRootedCause p depth OutOfMemory = Unit {0}

-- the same of a policy by what it shows: first there are too many hashes; of a path, and of what stands side by side,
-- only where it says levels
abbrev pub IsCredentialCause : Contents → RootedError → Type 0
IsCredentialCause p Hashes = most_hashes < hash_count p
IsCredentialCause p (Policy e) = IsPolicyCause p e
IsCredentialCause p (Path e) = (1 ≤ p.depth) × IsPathCause p.depth e
IsCredentialCause p Privates = (1 ≤ p.depth) × (most_privates < private_count p p.depth)
IsCredentialCause p (Beside e) =
    (1 ≤ p.depth) × ((first : Wiring Gold) × (second : Wiring Gold) × IsCause first second e)
IsCredentialCause p OutOfMemory = Unit {0}
