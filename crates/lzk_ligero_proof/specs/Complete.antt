-- Completeness: what an honest prover writes for satisfying inputs is accepted.
use Rattle.std.specs.Prelude.{ℕ, List}
use Rattle.lzk_field.specs.Coding.{Coding}
use Rattle.lzk_field.specs.Ring.{Ops}
use Rattle.lzk_circuit.specs.Valid.{Wiring, IsValid}
use Rattle.lzk_circuit.specs.Wires.{inputs_of}
use Rattle.lzk_circuit.specs.Checks.{IsSatisfied}
use Rattle.lzk_ligero_proof.specs.Proving.{HaveCounts, IsProofFile}
use Rattle.lzk_verify.specs.Verdict.{IsVerdict}
use Rattle.lzk_verify.specs.declared.verdict.Verdict.TheVariants.{Accepted}

-- The file of the proof of satisfying inputs is accepted.
abbrev pub Complete : {A : Type 0} → Ops A → Coding A → Type 0
Complete {A} o e =
    (c : Wiring A) (session : List ℕ) (public private : List A) (word : ℕ → ℕ) (bytes : List ℕ)
    → IsValid o c → HaveCounts c public private → IsSatisfied o e.number c.layers (inputs_of o public private)
    → IsProofFile o e c session public private word bytes → IsVerdict o e c session public bytes Accepted
