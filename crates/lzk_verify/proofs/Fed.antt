-- What a desk stands behind that begins, and that is pushed one byte more.
use Rattle.std.specs.Prelude.{◌≡◌, ◌≢◌, ◌↔◌, refl, ℕ, ◌-◌, Bool, true, None, List, [], ◌∷◌, ◌++◌, length, take, replicate}
use Rattle.std.proofs.Common.{sym, ap, subst, ◌∙◌, arith}
use Rattle.std.proofs.lemmas.List.{length-append, length_push, take_at}
use Rattle.lzk_field.specs.Coding.{Coding}
use Rattle.lzk_field.specs.Ring.{Ops}
use Rattle.lzk_circuit.specs.Valid.{Wiring}
use Rattle.lzk_layout.specs.declared.cursor.CursorStep.{CursorStep}
use Rattle.lzk_layout.specs.declared.cursor.CursorStep.TheVariants.{More, Field, Fault}
use Rattle.lzk_layout.specs.declared.fault.ProofFault.{ProofFault}
use Rattle.lzk_layout.specs.declared.params.Params.{Params}
use Rattle.lzk_layout.specs.declared.part.ProofPart.{ProofPart}
use Rattle.lzk_layout.specs.Sizes.{params_of}
use Rattle.lzk_layout.specs.Proofs.{flat}
use Rattle.lzk_layout.specs.Fields.{shape}
use Rattle.lzk_layout.specs.Parts.{parts, number_of}
use Rattle.lzk_layout.specs.Fronts.{IsFront, EndsField, EndsNone, IsFaulty, OneFront, FrontIsSound, PartsStand}
use Rattle.lzk_layout.specs.Cursors.{CursorState, Pushed}
use Rattle.lzk_verify.specs.declared.intake.Intake.{Intake}
use Rattle.lzk_verify.specs.Desk.{kept_of, held_of, IsKeptOf}
use Rattle.lzk_verify.specs.Kept.{IsKept, IsHeldOf, DeskState, Stands}
use Rattle.lzk_verify.proofs.Pushing.{KeepsFields, begun_keeps, takes_keeps, keeps_kept, field_keeps, more_keeps, fault_keeps}
use Rattle.lzk_verify.proofs.Standing.{held_pushed, pushed_held}

module _ {A : Type 0} (o : Ops A) (e : Coding A) (c : Wiring A) (p : Params) (are : p ≡ params_of c) where
  -- a desk with these parts
  abbrev pub desk_of : Bool → CursorState → Intake A → DeskState A
  desk_of fed cursor k = record { circuit = c; held = held_of o e c p fed cursor.place k }

  -- no fields are whole in no bytes
  nothing_whole : (fields : List (List ℕ)) (rest : List ℕ) → IsFront (shape e.bytes e.size) (params_of c) [] fields rest → [] ≡ fields
  unfolding parts
  nothing_whole [] rest front = refl
  nothing_whole (f ∷ fs) rest front =
      let n : 0 ≡ length ((f ++ flat fs) ++ rest) = ap length front.are in
      let long : length f ≡ 4 = front.pass.0.long in
      absurd (omega (arith, n, long, length-append (f ++ flat fs) rest, length-append f (flat fs)))

  -- a desk that begins stands behind no bytes
  pub begun_stands : (session : List ℕ) (public : List A) (cursor : CursorState) (k : Intake A) → Pushed (shape e.bytes e.size) cursor p [] → IsKept o e c p session public [] (kept_of o e c p 0 None [] k)
      → Stands o e session public [] (desk_of true cursor k)
  begun_stands session public cursor k pushed kept =
      let whole : Pushed (shape e.bytes e.size) cursor (params_of c) [] = subst (λ x. Pushed (shape e.bytes e.size) cursor x []) are pushed in
      record {
        are_bytes = whole.are_bytes;
        held = pushed_held o e c p session public [] cursor.place k whole.stands
            (λ fields rest front. keeps_kept o e c p are session public fields rest k
            (subst (λ fs. KeepsFields o e c p are session public fs k) (nothing_whole fields rest front) (begun_keeps o e c p are session public k kept)));
      }

  module _ (session : List ℕ) (public : List A) (bytes : List ℕ) (byte : ℕ) (fed : Bool) (on : fed ≡ true) (cursor next : CursorState) (lengths : cursor.params ≡ p) (k : Intake A)
      (pushes : (x : Params) (b : List ℕ) → Pushed (shape e.bytes e.size) cursor x b → Pushed (shape e.bytes e.size) next x (b ++ byte ∷ []))
      (one : OneFront (shape e.bytes e.size) (params_of c)) (sound : FrontIsSound (shape e.bytes e.size) (params_of c)) (stands : Stands o e session public bytes (desk_of fed cursor k)) where
    was_held : IsHeldOf o e c session public bytes (held_of o e c p true cursor.place k)
    was_held = subst (λ b. IsHeldOf o e c session public bytes (held_of o e c p b cursor.place k)) on stands.held

    was_pushed : Pushed (shape e.bytes e.size) cursor (params_of c) bytes
    was_pushed = held_pushed o e c p session public bytes cursor.params cursor.place k (lengths ∙ are) stands.are_bytes was_held

    is_pushed : Pushed (shape e.bytes e.size) next (params_of c) (bytes ++ byte ∷ [])
    is_pushed = pushes (params_of c) bytes was_pushed

    -- it stands behind one byte more, where its intake keeps what the fields say
    stands_next : (l : Intake A) → ((fields : List (List ℕ)) (rest : List ℕ) → IsFront (shape e.bytes e.size) (params_of c) (bytes ++ byte ∷ []) fields rest → KeepsFields o e c p are session public fields l)
        → Stands o e session public (bytes ++ byte ∷ []) (desk_of fed next l)
    stands_next l keeps = record {
      are_bytes = is_pushed.are_bytes;
      held = subst (λ b. IsHeldOf o e c session public (bytes ++ byte ∷ []) (held_of o e c p b next.place l)) (sym on)
          (pushed_held o e c p session public (bytes ++ byte ∷ []) next.place l is_pushed.stands (λ fields rest front. keeps_kept o e c p are session public fields rest l (keeps fields rest front)));
    }

    -- The byte ends a field, which is taken.
    pub field_stands : (l : Intake A) (part : ProofPart) (block : List ℕ) (n : ℕ) → ((x : Params) (b : List ℕ) → Pushed (shape e.bytes e.size) cursor x b → EndsField (shape e.bytes e.size) x b byte part block n)
        → PartsStand (params_of c)
        → ((fields : List (List ℕ)) → length fields ≡ number_of p part → IsKeptOf o e c p session public fields k
        → IsKeptOf o e c p session public (fields ++ take n block ∷ []) l)
        → Stands o e session public (bytes ++ byte ∷ []) (desk_of fed next l)
    field_stands l part block n ends_field stand takes =
        let ends = ends_field (params_of c) bytes was_pushed in
        let field : List ℕ = ends.rest ++ byte ∷ [] in
        let long : length field ≡ n = length_push ends.rest byte ∙ sym ends.number in
        let front : take n block ≡ field = ap (take n) ends.is ∙ take_at field (replicate (32 - n) 0) n long in
        let number : length ends.fields ≡ number_of p part = (stand _ (length ends.fields) part ends.next).0 ∙ ap (λ x. number_of x part) (sym are) in
        stands_next l
        (field_keeps o e c p are session public one sound bytes byte cursor.place k was_held l part block n ends
        (takes_keeps o e c p are session public ends.fields field k l
        (subst (λ (f : List ℕ). IsKeptOf o e c p session public ends.fields k → IsKeptOf o e c p session public (ends.fields ++ f ∷ []) l) front (takes ends.fields number))))

    -- The byte ends none, or the bytes have a fault.
    pub none_stands : (step : CursorStep) → ((part : ProofPart) (block : List ℕ) (n : ℕ) → step ≢ Field part block n)
        → ((x : Params) (b : List ℕ) → Pushed (shape e.bytes e.size) cursor x b → step ≡ More ↔ EndsNone (shape e.bytes e.size) x b byte)
        → ((x : Params) (b : List ℕ) → Pushed (shape e.bytes e.size) cursor x b → (fault : ProofFault) → step ≡ Fault fault ↔ IsFaulty (shape e.bytes e.size) x (b ++ byte ∷ []) fault)
        → Stands o e session public (bytes ++ byte ∷ []) (desk_of fed next k)
    none_stands (Field part block n) not more fault = absurd (not part block n refl)
    none_stands More not more fault = stands_next k (more_keeps o e c p are session public one sound bytes byte cursor.place k was_held ((more (params_of c) bytes was_pushed).0 refl))
    none_stands (Fault f) not more fault = stands_next k (fault_keeps o e c p are session public one sound bytes byte cursor.place k was_held f ((fault (params_of c) bytes was_pushed f).0 refl))
