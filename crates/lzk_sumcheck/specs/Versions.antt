-- What version 1 leaves out.
use Rattle.std.specs.Prelude.{◌≡◌, ℕ, ◌<◌, List}
use Rattle.lzk_field.specs.Coding.{Coding}
use Rattle.lzk_field.specs.Ring.{Ops}
use Rattle.lzk_transcript.specs.Tape.{TapeState}
use Rattle.lzk_circuit.specs.Valid.{Wiring}
use Rattle.lzk_circuit.specs.Wires.{coef}
use Rattle.lzk_layout.specs.Places.{depth}
use Rattle.lzk_sumcheck.specs.Coefficients.{coefficients, terms_at}
use Rattle.lzk_sumcheck.specs.Script.{script, layer_at}

-- in version 1 each layer's beta is 0, and its coefficients are those of its terms
abbrev pub FirstVersion : {A : Type 0} → Ops A → Coding A → Type 0
FirstVersion {A} o e =
    (c : Wiring A) (t : TapeState) (messages : List A) (l g a b : ℕ) → c.version ≡ 1 → l < depth c
    → (let s = script o e messages c t in
    ((layer_at o s l).beta ≡ o.zero) × (coefficients o c s l g a b ≡ coef o (terms_at c l) g a b))
