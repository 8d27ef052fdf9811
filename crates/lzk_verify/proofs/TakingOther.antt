-- What is known when a field is taken that is not sent before the columns.
use Rattle.std.specs.Prelude.{◌≡◌, ℕ, List, [], length}
use Rattle.std.proofs.Common.{ap, subst, ◌∙◌}
use Rattle.lzk_field.specs.Coding.{Coding}
use Rattle.lzk_field.specs.Ring.{Ops}
use Rattle.lzk_circuit.specs.Valid.{Wiring}
use Rattle.lzk_layout.specs.declared.params.Params.{Params}
use Rattle.lzk_layout.specs.declared.part.ProofPart.{ProofPart}
use Rattle.lzk_layout.specs.Fields.{shape}
use Rattle.lzk_layout.specs.Fronts.{digests_in, IsWholeField}
use Rattle.lzk_layout.specs.Parts.{number_of}
use Rattle.lzk_verify.specs.declared.intake.Intake.{Intake}
use Rattle.lzk_verify.specs.Desk.{IsKeptOf}
use Rattle.lzk_verify.proofs.Stored.{IsStored, kept_stored}

module _ {A : Type 0} (o : Ops A) (e : Coding A) (c : Wiring A) (p : Params) (session : List ℕ) (public : List A) (fields : List (List ℕ)) (k : Intake A) (block : List ℕ) (width : ℕ) where
  -- the fields before it are stored, and the next one, of this part, is whole
  pub record IsTaken (part : ProofPart) : Type 0 where
    pub stored : IsStored o e c p session public fields k
    pub at : length fields ≡ number_of p part
    pub whole : IsWholeField (shape e.bytes e.size) p part block width

  pub taken : (given part : ProofPart) → given ≡ part → length fields ≡ number_of p given → IsWholeField (shape e.bytes e.size) p given block width
      → IsKeptOf o e c p session public fields k → IsTaken part
  taken given part is number whole kept =
      record {
        stored = kept_stored o e c p session public fields k [] (digests_in p fields) kept;
        at = number ∙ ap (λ x. number_of p x) is;
        whole = subst (λ x. IsWholeField (shape e.bytes e.size) p x block width) is whole;
      }
