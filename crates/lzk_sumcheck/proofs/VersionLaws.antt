-- What version 1 leaves out.
use Rattle.std.specs.Prelude.{◌≡◌, ℕ, ◌<◌, List}
use Rattle.std.proofs.Common.{refl, ap, ◌∙◌}
use Rattle.lzk_field.specs.Coding.{Coding}
use Rattle.lzk_field.specs.Ring.{Ops, RingLaws}
use Rattle.lzk_transcript.specs.Tape.{TapeState, after_draw}
use Rattle.lzk_circuit.specs.Valid.{Wiring}
use Rattle.lzk_circuit.specs.Wires.{layer_coefficient}
use Rattle.lzk_circuit.proofs.AssertLaws.{weighed-none}
use Rattle.lzk_layout.specs.Places.{depth}
use Rattle.lzk_sumcheck.specs.Coefficients.{coefficients, terms_at}
use Rattle.lzk_sumcheck.specs.Script.{drawn_beta, after_layers, script, layer_at}
use Rattle.lzk_sumcheck.specs.Versions.{FirstVersion}
use Rattle.lzk_sumcheck.proofs.Prefixes.{start, script-beta}

module _ {A : Type 0} (o : Ops A) (e : Coding A) where
  none_drawn : (t : TapeState) → drawn_beta o e 1 t ≡ o.zero
  unfolding drawn_beta
  none_drawn t = refl

  first-beta : (c : Wiring A) (t : TapeState) (messages : List A) (l : ℕ) → c.version ≡ 1 → l < depth c → (layer_at o (script o e messages c t) l).beta ≡ o.zero
  first-beta c t messages l one h =
      let now = after_draw (after_layers o e messages c l (start o e c t)) in
      script-beta o e c t messages l h ∙ ap (λ v. drawn_beta o e v now) one ∙ none_drawn now

  pub first-version : RingLaws o → FirstVersion o e
  unfolding coefficients
  first-version r = λ c t messages l g a b one h.
      let none = first-beta c t messages l one h in
      (none, ap (λ y. layer_coefficient o (terms_at c l) y g a b) none ∙ weighed-none o r (terms_at c l) g a b)
