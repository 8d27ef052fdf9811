-- Verdicts on bytes, from what reading and judging answer for equal parameters and an equal id.
use Rattle.std.specs.Prelude.{◌≡◌, refl, ℕ, List}
use Rattle.std.proofs.Common.{◌∙◌, ap, subst, inl, inr}
use Rattle.lzk_field.specs.Coding.{Coding}
use Rattle.lzk_field.specs.Ring.{Ops}
use Rattle.lzk_circuit.specs.Valid.{Wiring}
use Rattle.lzk_layout.specs.declared.fault.ProofFault.{ProofFault}
use Rattle.lzk_layout.specs.declared.params.Params.{Params}
use Rattle.lzk_layout.specs.declared.proof.Proof.{Proof}
use Rattle.lzk_layout.specs.Sizes.{params_of}
use Rattle.lzk_layout.specs.Proofs.{ProofBytes}
use Rattle.lzk_layout.specs.Fields.{shape, ProofFaultAt}
use Rattle.lzk_layout.specs.Files.{OneProof, OneFault, NoFault}
use Rattle.lzk_accept.specs.Challenges.{Transcript, transcript}
use Rattle.lzk_verify.specs.declared.verdict.Verdict.{Verdict}
use Rattle.lzk_verify.specs.declared.verdict.Verdict.TheVariants.{Format}
use Rattle.lzk_circbytes.specs.Files.{id_of}
use Rattle.lzk_verify.specs.Verdict.{IsJudged, IsVerdict, IsOnlyVerdict}
use Rattle.lzk_verify.proofs.OneVerdict.{one_verdict}

module _ {A : Type 0} (o : Ops A) (e : Coding A) (c : Wiring A) (session : List ℕ) (public : List A) (bytes : List ℕ) (p : Params) (is : p ≡ params_of c) where
  -- a fault is the verdict
  pub fault_verdict : (fault : ProofFault) → ProofFaultAt (shape e.bytes e.size) p bytes fault.offset fault.kind → IsVerdict o e c session public bytes (Format fault)
  unfolding IsVerdict
  fault_verdict fault first = inl (record { fault = fault; first = subst (λ q. ProofFaultAt (shape e.bytes e.size) q bytes fault.offset fault.kind) is first; is = refl })

  -- what a proof is judged is the verdict
  pub judged_verdict : (id : List ℕ) (proof : Proof A) (t : Transcript A) (v : Verdict A) → id ≡ id_of e c → ProofBytes e.bytes e.number p proof bytes → t ≡ transcript o e c session id public proof → IsJudged o e c p public proof t v → IsVerdict o e c session public bytes v
  unfolding IsVerdict
  judged_verdict id proof t v own read drawn judged = inr (record {
    proof = proof;
    read = subst (λ q. ProofBytes e.bytes e.number q proof bytes) is read;
    judged = subst (λ q. IsJudged o e c q public proof (transcript o e c session (id_of e c) public proof) v) is
        (subst (λ s. IsJudged o e c p public proof s v) (drawn ∙ ap (λ i. transcript o e c session i public proof) own) judged);
  })

  -- and there is no other one
  pub only_verdict : OneProof e.bytes e.number p → OneFault (shape e.bytes e.size) p → NoFault e.bytes e.size e.number p → (v : Verdict A) → IsVerdict o e c session public bytes v → IsOnlyVerdict o e c session public bytes v
  only_verdict proofs faults none v this = λ w other.
      one_verdict o e c session public (subst (OneProof e.bytes e.number) is proofs) (subst (OneFault (shape e.bytes e.size)) is faults) (subst (NoFault e.bytes e.size e.number) is none) bytes w v other this
