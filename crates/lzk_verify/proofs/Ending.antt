-- The verdict that a desk ends with, on all bytes that it was fed.
use Rattle.std.specs.Prelude.{◌≡◌, ◌≢◌, refl, Result, Ok, Err, ℕ, ◌-◌, Bool, true, Option, Some, None, List, length}
use Rattle.std.proofs.Common.{sym, subst, ◌∙◌}
use Rattle.lzk_field.specs.Coding.{Coding}
use Rattle.lzk_field.specs.Ring.{Ops, Laws}
use Rattle.lzk_circuit.specs.Valid.{Wiring}
use Rattle.lzk_layout.specs.declared.params.Params.{Params}
use Rattle.lzk_layout.specs.declared.part.ProofPart.{ProofPart}
use Rattle.lzk_layout.specs.declared.proof.Proof.{Proof}
use Rattle.lzk_layout.specs.declared.fault.ProofFault.{ProofFault}
use Rattle.lzk_layout.specs.declared.fault.ProofKind.TheVariants as kinds
use Rattle.lzk_layout.specs.Sizes.{AreBounded, params_of}
use Rattle.lzk_layout.specs.Proofs.{ProofBytes, element_field, fields_of}
use Rattle.lzk_layout.specs.Fields.{shape, ProofFaultAt}
use Rattle.lzk_layout.specs.Files.{AreBytes}
use Rattle.lzk_layout.specs.Fronts.{IsFront, next_part, FrontIsFile}
use Rattle.lzk_layout.specs.Cursors.{CursorPlace, faulty, reading, CursorState, Pushed}
use Rattle.lzk_layout.proofs.Faults.{one_fault, fault_found}
use Rattle.lzk_layout.proofs.FrontFaults.{front_truncated}
use Rattle.lzk_layout.proofs.OneProof.{one_proof, no_fault}
use Rattle.lzk_verify.specs.declared.intake.Intake.{Intake}
use Rattle.lzk_verify.specs.declared.verdict.Verdict.{Verdict}
use Rattle.lzk_verify.specs.declared.verdict.Verdict.TheVariants.{Format}
use Rattle.lzk_circbytes.specs.Files.{id_of}
use Rattle.lzk_verify.specs.Desk.{held_of, Rooms, IsSound, IsFound}
use Rattle.lzk_verify.specs.Kept.{IsHeldOf, Stands}
use Rattle.lzk_verify.specs.Verdict.{given, IsVerdict, IsOnlyVerdict}
use Rattle.lzk_verify.proofs.Judged.{found_judged}
use Rattle.lzk_verify.proofs.Pushing.{stored_of}
use Rattle.lzk_verify.proofs.Standing.{held_pushed}
use Rattle.lzk_verify.proofs.Stored.{IsStored}
use Rattle.lzk_verify.proofs.Verdicts.{fault_verdict, judged_verdict, only_verdict}
use Rattle.lzk_verify.proofs.WholeProof.{keeps_proof}

-- an answer that is no fault
pub no_err : {X : Type 0} (r : Result (Unit {0}) X) → ((x : X) → r ≢ Err x) → r ≡ Ok tt
no_err (Ok tt) not = refl
no_err (Err x) not = absurd (not x refl)

module _ {A : Type 0} (o : Ops A) (e : Coding A) (c : Wiring A) (p : Params) (are : p ≡ params_of c) (laws : Laws o e.size e.number e.element e.bytes) (session : List ℕ) (public : List A) (bytes : List ℕ) where
  -- bytes have no other verdict than this
  pub only_this : (v : Verdict A) → IsVerdict o e c session public bytes v → IsOnlyVerdict o e c session public bytes v
  only_this v this =
      only_verdict o e c session public bytes p are (one_proof o e.size e.number e.element e.bytes laws p) (one_fault (shape e.bytes e.size) p) (no_fault o e.size e.number e.element e.bytes laws p) v this

  -- no part comes behind a front whose bytes have no fault
  none_comes : (fields : List (List ℕ)) (rest : List ℕ) → IsFront (shape e.bytes e.size) (params_of c) bytes fields rest
      → ((fault : ProofFault) → ¬ ProofFaultAt (shape e.bytes e.size) (params_of c) bytes fault.offset fault.kind) → (next : Option ProofPart) → next_part (params_of c) fields ≡ next → next ≡ None
  none_comes fields rest front none None is = refl
  none_comes fields rest front none (Some part) is =
      absurd (none (record { offset = length bytes - length rest; kind = kinds.Truncated }) (fault_found (shape e.bytes e.size) (params_of c) bytes (length rest) kinds.Truncated (front_truncated (shape e.bytes e.size) (params_of c) bytes fields rest front part is)))

  module _ (bounded : AreBounded p) (id : List ℕ) (own : id ≡ id_of e c) (k : Intake A) (r : Rooms A) (sound : IsSound o e.element c p k r) (v : Verdict A) (found : IsFound o p id k v) where
    stored_judged : (q : Proof A) → ProofBytes e.bytes e.number (params_of c) q bytes → IsStored o e c (params_of c) session public (fields_of (element_field e.bytes e.number) (params_of c).nrow q) k
        → IsVerdict o e c session public bytes v
    stored_judged q is stored =
        let read : ProofBytes e.bytes e.number p q bytes = subst (λ x. ProofBytes e.bytes e.number x q bytes) (sym are) is in
        let own_stored : IsStored o e c p session public (fields_of (element_field e.bytes e.number) p.nrow q) k =
        subst (λ (x : Params). IsStored o e c x session public (fields_of (element_field e.bytes e.number) x.nrow q) k) (sym are) stored in
        let keeps = keeps_proof o e c p are session public bytes q k laws bounded read own_stored sound.lists r sound.ready in
        judged_verdict o e c session public bytes p are (id_of e c) q (given o e c session public q) v refl read refl
        (found_judged o e c p public q (given o e c session public q) k keeps v bounded read.lengths id own found)

    -- what is found of what a desk keeps is the verdict
    pub held_judged : (place : CursorPlace) → AreBytes bytes → IsHeldOf o e c session public bytes (held_of o e c p true place k)
        → ((fault : ProofFault) → ¬ ProofFaultAt (shape e.bytes e.size) (params_of c) bytes fault.offset fault.kind) → FrontIsFile e.bytes e.size e.number (params_of c)
        → IsVerdict o e c session public bytes v
    unfolding held_of IsHeldOf
    held_judged (faulty fault) small held none front_is_file = absurd (none fault held.0)
    held_judged (reading n digests rest) small held none front_is_file =
        let file = front_is_file bytes held.fields _ small held.front (none_comes held.fields _ held.front none (next_part (params_of c) held.fields) refl) in
        let stored = stored_of o e c p are session public held.fields n digests rest k held.kept in
        stored_judged file.proof file.is (subst (λ fs. IsStored o e c (params_of c) session public fs k) file.fields_are stored)

module _ {A : Type 0} (o : Ops A) (e : Coding A) (c : Wiring A) (p : Params) (are : p ≡ params_of c) (session : List ℕ) (public : List A) (bytes : List ℕ) (fed : Bool) (on : fed ≡ true) (cursor : CursorState) (lengths : cursor.params ≡ p) (k : Intake A)
    (stands : Stands o e session public bytes (record { circuit = c; held = held_of o e c p fed cursor.place k })) where
  was_held : IsHeldOf o e c session public bytes (held_of o e c p true cursor.place k)
  was_held = subst (λ b. IsHeldOf o e c session public bytes (held_of o e c p b cursor.place k)) on stands.held

  was_pushed : Pushed (shape e.bytes e.size) cursor (params_of c) bytes
  was_pushed = held_pushed o e c p session public bytes cursor.params cursor.place k (lengths ∙ are) stands.are_bytes was_held

  -- the bytes have a fault
  pub faulty_ends : (fault : ProofFault) → ((x : Params) (b : List ℕ) → Pushed (shape e.bytes e.size) cursor x b → ProofFaultAt (shape e.bytes e.size) x b fault.offset fault.kind) → IsVerdict o e c session public bytes (Format fault)
  faulty_ends fault faulty_at =
      fault_verdict o e c session public bytes (params_of c) refl fault (faulty_at (params_of c) bytes was_pushed)

  -- the bytes have none
  pub whole_ends : Laws o e.size e.number e.element e.bytes → AreBounded p → (id : List ℕ) → id ≡ id_of e c → (r : Rooms A) → IsSound o e.element c p k r → (v : Verdict A) → IsFound o p id k v
      → ((x : Params) (b : List ℕ) → Pushed (shape e.bytes e.size) cursor x b → (fault : ProofFault) → ¬ ProofFaultAt (shape e.bytes e.size) x b fault.offset fault.kind)
      → FrontIsFile e.bytes e.size e.number (params_of c) → IsVerdict o e c session public bytes v
  whole_ends laws bounded id own r sound v found none front_is_file =
      held_judged o e c p are laws session public bytes bounded id own k r sound v found cursor.place stands.are_bytes was_held (none (params_of c) bytes was_pushed) front_is_file
