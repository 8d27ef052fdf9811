-- Scripts by their parts.
use Rattle.std.specs.Prelude.{◌≡◌, List}
use Rattle.std.proofs.Common.{ap, ◌∙◌}
use Rattle.lzk_field.specs.Coding.{Coding}
use Rattle.lzk_field.specs.Ring.{Ops}
use Rattle.lzk_transcript.specs.Tape.{TapeState, drawn, after_draw}
use Rattle.lzk_transcript.specs.Columns.{after_draws}
use Rattle.lzk_circuit.specs.Valid.{Wiring}
use Rattle.lzk_layout.specs.Places.{depth, output_bits}
use Rattle.lzk_sumcheck.specs.declared.script.LayerScript.{LayerScript}
use Rattle.lzk_sumcheck.specs.declared.script.Script.{Script}
use Rattle.lzk_sumcheck.specs.Draws.{draws}
use Rattle.lzk_sumcheck.specs.Script.{after_layers, layer_scripts, script, after_script}

module _ {A : Type 0} (o : Ops A) (e : Coding A) (messages : List A) (c : Wiring A) (t : TapeState) where
  pub script_whole : (out : List A) (layers : List (LayerScript A)) (gamma : A) (start last : TapeState) → start ≡ after_draws (output_bits c) t
      → last ≡ after_layers o e messages c (depth c) start → out ≡ draws e 0 (output_bits c) t → layers ≡ layer_scripts o e messages c start → gamma ≡ e.element (drawn last)
      → record { out_point = out; layers = layers; gamma = gamma } ≡ script o e messages c t
  unfolding script
  script_whole out layers gamma start last begins ends a b g =
      let make : List A → List (LayerScript A) → A → Script A = λ xs ls x. record { out_point = xs; layers = ls; gamma = x } in
      ap (λ xs. make xs layers gamma) a ∙ ap (λ ls. make (draws e 0 (output_bits c) t) ls gamma) b
      ∙ ap (make (draws e 0 (output_bits c) t) (layer_scripts o e messages c start)) (g ∙ ap (λ s. e.element (drawn s)) ends)
      ∙ ap (λ s. make (draws e 0 (output_bits c) t) (layer_scripts o e messages c s) (e.element (drawn (after_layers o e messages c (depth c) s)))) begins

  pub tape_whole : (start last after : TapeState) → start ≡ after_draws (output_bits c) t → last ≡ after_layers o e messages c (depth c) start → after ≡ after_draw last → after ≡ after_script o e messages c t
  unfolding after_script
  tape_whole start last after begins ends drawn_is = drawn_is ∙ ap after_draw (ends ∙ ap (after_layers o e messages c (depth c)) begins)
