-- A proof for a policy, and the verdict on one.
use Rattle.std.specs.Prelude.{◌≡◌, ◌≤◌, ℕ, List, length, take, drop, Vec, Result, Ok, Err}
use Rattle.std.specs.declared.alloc.Global.{Global}
use Rattle.lzk_field.specs.Words.{seeded_word}
use Rattle.lzk_goldilocks.specs.Drawn.{drawn}
use Rattle.lzk_goldilocks.specs.Elements.{ops, number}
use Rattle.lzk_goldilocks.specs.declared.element.Gold.{Gold}
use Rattle.lzk_circuit.specs.Checks.{IsSatisfied}
use Rattle.lzk_circuit.specs.Valid.{Wiring}
use Rattle.lzk_circuit.specs.Wires.{inputs_of}
use Rattle.lzk_ligero_proof.specs.Proving.{IsProofFile, words_of}
use Rattle.lzk_verify.specs.declared.verdict.Verdict.{Verdict}
use Rattle.lzk_verify.specs.declared.verdict.Verdict.TheVariants.{Accepted}
use Rattle.lzk_verify.specs.Verdict.{IsOnlyVerdict, IsVerdict}
use Rattle.lzk_cmd_files.specs.Decoded.{proof_limit}
use Rattle.lzk_cmd_verify.specs.Verified.{gold_coding}
use Rattle.lzk_policy.specs.Policies.{Contents}
use Rattle.lzk_policy_circuit.specs.Meaning.{public_count}
use Rattle.lzk_policy_inputs.specs.Both.{Inputs}
use Rattle.lzk_policy_inputs.specs.Depths.{SatisfyAt, private_count}
use Rattle.lzk_policy_texts.specs.Circuits.{IsPolicyCircuit, PassesLimit}
use Rattle.lzk_policy_texts.specs.declared.error.PolicyProofError.{PolicyProofError}
use Rattle.lzk_policy_texts.specs.declared.error.PolicyProofError.TheVariants.{Limit, OutOfMemory}

-- ---- proofs

-- the random words of a seed, of 128 bits each
abbrev pub random_words : List ℕ → ℕ → ℕ
random_words seed = words_of (drawn (seeded_word seed))

-- inputs that satisfy the circuit of a policy
pub record AreProvable (p : Contents) (i : Inputs) : Type 0 where
  pub publics : length i.public ≡ public_count p
  pub privates : length i.private ≡ private_count p.depth p
  pub satisfied : SatisfyAt p.depth p (take 8 i.public) (drop 8 i.public) i.private

-- inputs that satisfy a circuit
pub record AreProvableOver (c : Wiring Gold) (i : Inputs) : Type 0 where
  pub publics : length i.public ≡ c.publics
  pub privates : length i.private ≡ c.privates
  pub satisfied : IsSatisfied ops number c.layers (inputs_of ops i.public i.private)

-- the bytes are the file of the one proof of these inputs over a circuit, for a session and the random words of a seed;
-- it is within the limit of proofs, and is accepted
pub record IsProofOver (c : Wiring Gold) (session seed : List ℕ) (i : Inputs) (bytes : List ℕ) : Type 0 where
  pub file : IsProofFile ops gold_coding c session i.public i.private (random_words seed) bytes
  pub fits : length bytes ≤ proof_limit
  pub accepted : IsVerdict ops gold_coding c session i.public bytes Accepted

-- such bytes, over a circuit that shows what a policy says
abbrev pub IsPolicyProof : Contents → List ℕ → List ℕ → Inputs → List ℕ → Type 0
IsPolicyProof p session seed i bytes = (c : Wiring Gold) × IsPolicyCircuit p c × IsProofOver c session seed i bytes

-- what proving answers
abbrev pub ProvesPolicy : Contents → List ℕ → List ℕ → Inputs → Result (Vec ℕ Global) PolicyProofError → Type 0
ProvesPolicy p session seed i (Ok v) = IsPolicyProof p session seed i v.items
ProvesPolicy p session seed i (Err Limit) = PassesLimit p
ProvesPolicy p session seed i (Err OutOfMemory) = Unit {0}

-- ---- verdicts

-- the one verdict on the bytes of a proof over a circuit
abbrev pub IsVerdictOver : Wiring Gold → List ℕ → List Gold → List ℕ → Verdict Gold → Type 0
IsVerdictOver c session publics bytes verdict =
    IsVerdict ops gold_coding c session publics bytes verdict
    × IsOnlyVerdict ops gold_coding c session publics bytes verdict

-- such a verdict, over a circuit that shows what a policy says
abbrev pub IsPolicyVerdict : Contents → List ℕ → List Gold → List ℕ → Verdict Gold → Type 0
IsPolicyVerdict p session publics bytes verdict =
    (c : Wiring Gold) × IsPolicyCircuit p c × IsVerdictOver c session publics bytes verdict

-- what judging answers
abbrev pub JudgesPolicy : Contents → List ℕ → List Gold → List ℕ → Result (Verdict Gold) PolicyProofError → Type 0
JudgesPolicy p session publics bytes (Ok verdict) = IsPolicyVerdict p session publics bytes verdict
JudgesPolicy p session publics bytes (Err Limit) = PassesLimit p
JudgesPolicy p session publics bytes (Err OutOfMemory) = Unit {0}
