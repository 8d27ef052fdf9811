-- A desk that is pushed one byte more.
use Rattle.std.specs.Prelude.{◌≡◌, refl, ℕ, true, Option, None, List, [], ◌∷◌, ◌++◌, length}
use Rattle.std.proofs.Common.{sym, subst, arith}
use Rattle.lzk_field.specs.Coding.{Coding}
use Rattle.lzk_field.specs.Ring.{Ops}
use Rattle.lzk_circuit.specs.Valid.{Wiring}
use Rattle.lzk_layout.specs.declared.params.Params.{Params}
use Rattle.lzk_layout.specs.declared.part.ProofPart.{ProofPart}
use Rattle.lzk_layout.specs.Sizes.{params_of}
use Rattle.lzk_layout.specs.Fields.{shape}
use Rattle.lzk_layout.specs.Parts.{parts}
use Rattle.lzk_layout.specs.Fronts.{IsFront, EndsField, EndsNone, IsFaulty, OneFront, FrontIsSound, digests_in}
use Rattle.lzk_layout.specs.declared.fault.ProofFault.{ProofFault}
use Rattle.lzk_layout.specs.Cursors.{CursorPlace, faulty, reading}
use Rattle.lzk_verify.specs.declared.intake.Intake.{Intake}
use Rattle.lzk_verify.specs.Kept.{IsKept, IsHeldOf}
use Rattle.lzk_verify.specs.Desk.{IsKeptOf, kept_of, held_of}
use Rattle.lzk_verify.proofs.Stored.{IsStored, kept_stored, stored_kept}

module _ {A : Type 0} (o : Ops A) (e : Coding A) (c : Wiring A) (p : Params) (are : p ≡ params_of c) (session : List ℕ) (public : List A) where
  -- what is kept of fields, whatever bytes stand behind them
  abbrev pub KeepsFields : List (List ℕ) → Intake A → Type 0
  KeepsFields fields k = IsStored o e c (params_of c) session public fields k

  pub stored_of : (fields : List (List ℕ)) (n : ℕ) (digests : Option ℕ) (r : List ℕ) (k : Intake A) → IsKept o e c (params_of c) session public fields (kept_of o e c p n digests r k) → KeepsFields fields k
  unfolding kept_of
  stored_of fields n digests r k h =
      kept_stored o e c (params_of c) session public fields k r digests
      (subst (λ (z : Params × ℕ). IsKept o e c (params_of c) session public fields (kept_of o e c z.0 z.1 digests r k)) (λ i. (are i, h.fields_are i)) h)

  -- what a desk holds of bytes that have a front is kept of this front's fields
  pub held_keeps : OneFront (shape e.bytes e.size) (params_of c) → FrontIsSound (shape e.bytes e.size) (params_of c)
      → (bytes : List ℕ) (place : CursorPlace) (k : Intake A) (fields : List (List ℕ)) (rest : List ℕ)
      → IsHeldOf o e c session public bytes (held_of o e c p true place k) → IsFront (shape e.bytes e.size) (params_of c) bytes fields rest → KeepsFields fields k
  unfolding held_of IsHeldOf
  held_keeps one sound bytes (faulty fault) k fields rest held front = absurd (sound bytes fields rest fault front held)
  held_keeps one sound bytes (reading n digests r) k fields rest held front =
      let same : held.fields ≡ fields = (one bytes held.fields fields _ rest held.front front).0 in
      subst (λ fs. KeepsFields fs k) same (stored_of held.fields n digests r k held.kept)

  -- and what is kept of fields is what a desk holds
  pub keeps_kept : (fields : List (List ℕ)) (rest : List ℕ) (k : Intake A) → KeepsFields fields k
      → IsKept o e c (params_of c) session public fields (kept_of o e c p (length fields) (digests_in (params_of c) fields) rest k)
  keeps_kept fields rest k s =
      subst (λ q. IsKept o e c (params_of c) session public fields (kept_of o e c q (length fields) (digests_in (params_of c) fields) rest k)) (sym are)
      (stored_kept o e c (params_of c) session public fields k rest s)

  -- what an intake promises that takes a field
  pub takes_keeps : (fields : List (List ℕ)) (f : List ℕ) (k l : Intake A)
      → (IsKeptOf o e c p session public fields k → IsKeptOf o e c p session public (fields ++ f ∷ []) l)
      → KeepsFields fields k → KeepsFields (fields ++ f ∷ []) l
  takes_keeps fields f k l takes s =
      let old : IsKeptOf o e c p session public fields k =
      subst (λ q. IsKept o e c q session public fields (kept_of o e c q (length fields) (digests_in q fields) [] k)) (sym are) (stored_kept o e c (params_of c) session public fields k [] s) in
      kept_stored o e c (params_of c) session public (fields ++ f ∷ []) l [] (digests_in p (fields ++ f ∷ []))
      (subst (λ q. IsKept o e c q session public (fields ++ f ∷ []) (kept_of o e c q (length (fields ++ f ∷ [])) (digests_in p (fields ++ f ∷ [])) [] l)) are (takes old))

  -- what an intake keeps that begins
  pub begun_keeps : (k : Intake A) → IsKept o e c p session public [] (kept_of o e c p 0 None [] k) → KeepsFields [] k
  begun_keeps k h = kept_stored o e c (params_of c) session public [] k [] None (subst (λ q. IsKept o e c q session public [] (kept_of o e c q 0 None [] k)) are h)

  -- no bytes have the front of no fields
  empty_front : IsFront (shape e.bytes e.size) (params_of c) [] [] []
  unfolding parts
  empty_front = record { are = refl; pass = tt; unfinished = omega arith }

  -- so what is kept of them is kept of no fields
  pub none_keeps : OneFront (shape e.bytes e.size) (params_of c) → (k : Intake A) → KeepsFields [] k → (fields : List (List ℕ)) (rest : List ℕ) → IsFront (shape e.bytes e.size) (params_of c) [] fields rest → KeepsFields fields k
  none_keeps one k s fields rest front = subst (λ fs. KeepsFields fs k) (one [] [] fields [] rest empty_front front).0 s

  module _ (one : OneFront (shape e.bytes e.size) (params_of c)) (sound : FrontIsSound (shape e.bytes e.size) (params_of c)) (bytes : List ℕ) (byte : ℕ) (place : CursorPlace) (k : Intake A) (held : IsHeldOf o e c session public bytes (held_of o e c p true place k)) where
    -- the byte ends a field, which is taken
    pub field_keeps : (l : Intake A) (part : ProofPart) (block : List ℕ) (m : ℕ) (ends : EndsField (shape e.bytes e.size) (params_of c) bytes byte part block m)
        → (KeepsFields ends.fields k → KeepsFields (ends.fields ++ (ends.rest ++ byte ∷ []) ∷ []) l)
        → (fields : List (List ℕ)) (rest : List ℕ) → IsFront (shape e.bytes e.size) (params_of c) (bytes ++ byte ∷ []) fields rest → KeepsFields fields l
    field_keeps l part block m ends takes fields rest front =
        subst (λ fs. KeepsFields fs l) (one (bytes ++ byte ∷ []) (ends.fields ++ (ends.rest ++ byte ∷ []) ∷ []) fields [] rest ends.after front).0
        (takes (held_keeps one sound bytes place k ends.fields ends.rest held ends.before))

    -- the byte ends none
    pub more_keeps : EndsNone (shape e.bytes e.size) (params_of c) bytes byte → (fields : List (List ℕ)) (rest : List ℕ) → IsFront (shape e.bytes e.size) (params_of c) (bytes ++ byte ∷ []) fields rest → KeepsFields fields k
    more_keeps ends fields rest front =
        subst (λ fs. KeepsFields fs k) (one (bytes ++ byte ∷ []) ends.fields fields (ends.rest ++ byte ∷ []) rest ends.after front).0
        (held_keeps one sound bytes place k ends.fields ends.rest held ends.before)

    -- the bytes have a fault
    pub fault_keeps : (fault : ProofFault) → IsFaulty (shape e.bytes e.size) (params_of c) (bytes ++ byte ∷ []) fault → (fields : List (List ℕ)) (rest : List ℕ) → IsFront (shape e.bytes e.size) (params_of c) (bytes ++ byte ∷ []) fields rest → KeepsFields fields k
    fault_keeps fault is fields rest front = absurd (sound (bytes ++ byte ∷ []) fields rest fault front is)
