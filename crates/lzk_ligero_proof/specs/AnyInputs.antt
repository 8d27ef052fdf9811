-- What holds of a proof whether its inputs satisfy the circuit or not: all conditions of a verdict but that on the
-- linear answer's sum.
use Rattle.std.specs.Prelude.{ℕ, List}
use Rattle.lzk_field.specs.Coding.{Coding}
use Rattle.lzk_field.specs.Ring.{Ops}
use Rattle.lzk_circuit.specs.Valid.{Wiring, IsValid}
use Rattle.lzk_layout.specs.declared.proof.Proof.{Proof}
use Rattle.lzk_ligero_proof.specs.Proving.{HaveCounts, IsProofFile}
use Rattle.lzk_verify.specs.Verdict.{OpensFile, PassesColumns}

-- all conditions hold but that the linear answer's values have the wanted sum
pub record AllButSum {A : Type 0} (o : Ops A) (e : Coding A) (c : Wiring A) (session : List ℕ) (public : List A)
    (bytes : List ℕ) : Type 0 where
  pub proof : Proof A
  pub opens : OpensFile o e c session public bytes proof
  pub columns : PassesColumns o e c session public proof

-- The file of the proof of any inputs meets them.
abbrev pub AnyInputs : {A : Type 0} → Ops A → Coding A → Type 0
AnyInputs {A} o e =
    (c : Wiring A) (session : List ℕ) (public private : List A) (word : ℕ → ℕ) (bytes : List ℕ) → IsValid o c
    → HaveCounts c public private → IsProofFile o e c session public private word bytes
    → AllButSum o e c session public bytes
