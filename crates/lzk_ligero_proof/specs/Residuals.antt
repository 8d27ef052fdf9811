-- What is left of the claims of satisfying inputs: nothing.
use Rattle.std.specs.Prelude.{◌≡◌, ◌≤◌, ℕ, List}
use Rattle.lzk_field.specs.Coding.{Coding}
use Rattle.lzk_field.specs.Ring.{Ops}
use Rattle.lzk_transcript.specs.Tape.{TapeState}
use Rattle.lzk_circuit.specs.Valid.{Wiring, IsValid}
use Rattle.lzk_circuit.specs.Wires.{all_values, inputs_of}
use Rattle.lzk_circuit.specs.Checks.{IsSatisfied}
use Rattle.lzk_layout.specs.Places.{depth}
use Rattle.lzk_sumcheck.specs.Coefficients.{coefficients}
use Rattle.lzk_sumcheck.specs.Messages.{AreMessages}
use Rattle.lzk_sumcheck.specs.Script.{script}
use Rattle.lzk_accept.specs.Residuals.{residual}
use Rattle.lzk_ligero_tableau.specs.Tableau.{committed}
use Rattle.lzk_ligero_proof.specs.Proving.{HaveCounts, pads}

-- For satisfying inputs every residual of the committed list is 0, whatever the tape gives.
abbrev pub ResidualsVanish : {A : Type 0} → Ops A → Coding A → Type 0
ResidualsVanish {A} o e =
    (c : Wiring A) (session : List ℕ) (public private : List A) (word : ℕ → ℕ) (t : TapeState) (sent : List A) (i : ℕ)
    → IsValid o c → HaveCounts c public private → IsSatisfied o e.number c.layers (inputs_of o public private)
    → i ≤ depth c
    → AreMessages o e c (all_values o c.layers (inputs_of o public private)) (pads o e c session public private word) t
    sent
    → (let s = script o e sent c t in
    residual o e.element c (coefficients o c s) public s sent (committed o e c private word) i ≡ o.zero)
