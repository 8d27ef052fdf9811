-- The exits of a verification on a number file and a proof.
use Rattle.std.proofs.Common.{◌≡◌, ◌≤◌, ℕ, List, Result, Ok, Err, inl, refl, subst, lit≤}
use Rattle.std.specs.Prelude.{Vec}
use Rattle.std.specs.declared.alloc.Global.{Global}
use Rattle.std.specs.Result.{IsErrAnd}
use Rattle.lzk_circuit.specs.Valid.{Wiring}
use Rattle.lzk_field.specs.Coding.{Coding}
use Rattle.lzk_field.specs.Ring.{Ops}
use Rattle.lzk_outside.specs.Outside.{Files}
use Rattle.lzk_verify.specs.declared.verdict.Verdict.{Verdict}
use Rattle.lzk_verify.specs.declared.verdict.Verdict.TheVariants.{Accepted, Format, CircuitId, PathCount, Root, LowDegree, LinearSum, Linear, Quadratic}
use Rattle.lzk_verify.specs.Verdict.{IsVerdict}
use Rattle.lzk_cmd_files.specs.declared.ending.Ending.{Ending}
use Rattle.lzk_cmd_files.specs.declared.ending.Halt.{Halt}
use Rattle.lzk_cmd_files.specs.declared.ending.Halt.TheVariants as halts
use Rattle.lzk_cmd_files.specs.Decoded.{number_files, proof_files, proof_limit}
use Rattle.lzk_cmd_files.specs.Ends.{End, Stop}
use Rattle.lzk_cmd_verify.specs.Feeding.{EndsAtProof, JudgesFile}
use Rattle.lzk_cmd_files.specs.Seen.{Seen}
use Rattle.lzk_cmd_verify.specs.Verified.{Judged, VerifyOver, verdict_status, verdict_end}
use Rattle.lzk_cmd_files.specs.Walks.{OnlyReads, HasBytes, Gives, IsEnding, Walks}
use Rattle.lzk_cmd_files.proofs.Causes.{IsQuiet}
use Rattle.lzk_cmd_files.proofs.Inputs.{items_of}
use Rattle.lzk_cmd_files.proofs.Laws.{numbers_quiet}
use Rattle.lzk_cmd_files.proofs.Sights.{no_step}
use Rattle.lzk_cmd_files.proofs.Steps.{ends, then, here}

at_most_one : {A : Type 0} (verdict : Verdict A) → verdict_status verdict ≤ 1
at_most_one Accepted = lit≤ tt
at_most_one (Format fault) = lit≤ tt
at_most_one (CircuitId found) = lit≤ tt
at_most_one (PathCount found needed) = lit≤ tt
at_most_one (Root found) = lit≤ tt
at_most_one (LowDegree column) = lit≤ tt
at_most_one (LinearSum found wanted) = lit≤ tt
at_most_one (Linear column) = lit≤ tt
at_most_one (Quadratic column) = lit≤ tt

verdict_quiet : {A : Type 0} (number : A → ℕ) (verdict : Verdict A) → IsQuiet (verdict_end number verdict)
verdict_quiet number verdict = record { put = refl; present = refl; cause = inl (at_most_one verdict) }

module _ {A : Type 0} (o : Ops A) (e : Coding A) (c : Wiring A) (session : List ℕ) (publics : List A) (proof : List ℕ) (old new : Seen) where
  abbrev WithProof : Files → Stop → End → List ℕ → Type 0
  WithProof files stop end bytes = Judged o e c session publics bytes end

  ends_at : (h : Halt) → EndsAtProof old new proof h → Gives {X = List ℕ} {F = ⊥} {R = List ℕ} proof_files (λ bytes. bytes) old new proof (Err h)
  ends_at halts.Memory a = tt
  ends_at (halts.End e) a = inl a

  -- the run ends at the proof's file
  pub no_proof : (h : Halt) (r : Result Ending Halt) → OnlyReads old new → EndsAtProof old new proof h → IsErrAnd r (λ y. y ≡ h) → Walks (JudgesFile o e c session publics proof) 2 old new r
  unfolding JudgesFile
  no_proof h r reads gives is = ends proof_files (λ bytes. bytes) proof 2 WithProof ⊥ old new h r (λ fault. absurd fault) reads (ends_at h gives) is

  -- or with the verdict on its bytes
  pub judges : (d : Wiring A) (bytes : List ℕ) (verdict : Verdict A) (ending : Ending) → d ≡ c → OnlyReads old new → HasBytes old proof proof_limit bytes → IsVerdict o e d session publics bytes verdict
      → IsEnding (verdict_end e.number verdict) ending → Walks (JudgesFile o e c session publics proof) 2 old new (Ok ending)
  unfolding JudgesFile
  judges d bytes verdict ending same reads has is told =
      then proof_files (λ bytes. bytes) proof 2 WithProof ⊥ old new new bytes (Ok ending) reads (bytes, has, refl)
      (here (λ files stop end. WithProof files stop end bytes) 3 ⊥ new new (verdict_end e.number verdict) ending (no_step new) (verdict_quiet e.number verdict) told (λ f at. (verdict, subst (λ (w : Wiring A). IsVerdict o e w session publics bytes verdict) same is, refl)))

module _ {A : Type 0} (o : Ops A) (e : Coding A) (c : Wiring A) (public proof session : List ℕ) (old mid new : Seen) (n : ℕ) where
  -- what the number file gives, read for so many numbers
  abbrev Numbers : Seen → Seen → Result (Vec A Global) Halt → Type 0
  Numbers before after r = Gives (number_files e.size e.number n) items_of before after public r

  abbrev WithPublics : Files → Stop → End → List A → Type 0
  WithPublics files stop end publics = JudgesFile o e c session publics proof files stop end

  pub no_publics : (h : Halt) (r : Result Ending Halt) → n ≡ c.publics → OnlyReads old new → Numbers old new (Err h) → IsErrAnd r (λ y. y ≡ h) → Walks (VerifyOver o e c public proof session) 1 old new r
  unfolding VerifyOver JudgesFile
  no_publics h r few reads gives is =
      ends (number_files e.size e.number c.publics) items_of public 1 WithPublics ⊥ old new h r (numbers_quiet e.size e.number c.publics public) reads
      (subst (λ k. Gives (number_files e.size e.number k) items_of old new public (Err h)) few gives) is

  pub with_publics : (publics : Vec A Global) (r : Result Ending Halt) → n ≡ c.publics → OnlyReads old mid → Numbers old mid (Ok publics)
      → Walks (JudgesFile o e c session publics.items proof) 2 mid new r → Walks (VerifyOver o e c public proof session) 1 old new r
  unfolding VerifyOver JudgesFile
  with_publics publics r few reads gives rest =
      then (number_files e.size e.number c.publics) items_of public 1 WithPublics ⊥ old mid new publics r reads (subst (λ k. Gives (number_files e.size e.number k) items_of old mid public (Ok publics)) few gives) rest
