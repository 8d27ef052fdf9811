-- Tapes after layers.
use Rattle.std.specs.Prelude.{◌≡◌, ℕ, ◌<◌, ◌≤◌, ◌+◌, ◌*◌, List, length, slice_index_or, slice_set}
use Rattle.std.proofs.Common.{suc, refl, ap, ◌∙◌, arith}
use Rattle.std.proofs.lemmas.List.{get_or-set_other}
use Rattle.lzk_field.specs.Coding.{Coding}
use Rattle.lzk_field.specs.Ring.{Ops}
use Rattle.lzk_transcript.specs.Tape.{TapeState}
use Rattle.lzk_circuit.specs.Valid.{Wiring}
use Rattle.lzk_layout.specs.Places.{depth, bits_under, sent_at}
use Rattle.lzk_sumcheck.specs.declared.script.LayerScript.{LayerScript}
use Rattle.lzk_sumcheck.specs.Script.{after_first, with_pair, after_rounds, layer_script, after_layer, after_layers, layer_scripts, zero_layer}
use Rattle.lzk_sumcheck.proofs.Filled.{IsFilled, filled_more, filled_whole}

module _ {A : Type 0} (o : Ops A) (e : Coding A) (messages : List A) where
  -- a layer's tape, by its parts
  pub layer_after : (version i bits : ℕ) (before now after : TapeState) → now ≡ after_rounds o e messages i (2 * bits) (after_first version before)
      → after ≡ with_pair o e messages (i + 4 * bits) now → after ≡ after_layer o e messages version i bits before
  unfolding after_layer
  layer_after version i bits before now after rounds factors = factors ∙ ap (with_pair o e messages (i + 4 * bits)) rounds

  module _ (c : Wiring A) (start : TapeState) where
    -- what layer k draws
    abbrev pub drawn_by : ℕ → LayerScript A
    drawn_by k = layer_script o e messages c.version (sent_at c k) (bits_under c k) (after_layers o e messages c k start)

    -- the tape and the scripts after the first l layers
    pub record AreReplayed (given : List (LayerScript A)) (l : ℕ) (now : TapeState) (layers : List (LayerScript A)) : Type 0 where
      pub tape : now ≡ after_layers o e messages c l start
      pub done : IsFilled (zero_layer o 0) drawn_by l layers
      pub rest : (k : ℕ) → l ≤ k → slice_index_or layers k (zero_layer o 0) ≡ slice_index_or given k (zero_layer o 0)

    pub replayed_none : (given : List (LayerScript A)) → AreReplayed given 0 start given
    unfolding after_layers
    replayed_none given = record { tape = refl; done = λ k h. absurd (omega arith); rest = λ k h. refl }

    pub replayed_more : (given : List (LayerScript A)) (l : ℕ) (now after : TapeState) (layers : List (LayerScript A)) (x : LayerScript A)
        → AreReplayed given l now layers → l < length layers
        → x ≡ layer_script o e messages c.version (sent_at c l) (bits_under c l) now → after ≡ after_layer o e messages c.version (sent_at c l) (bits_under c l) now
        → AreReplayed given (l + 1) after (slice_set layers l x)
    unfolding after_layers
    replayed_more given l now after layers x old within is next =
        let same : suc l ≡ l + 1 = omega arith in
        record {
          tape = next ∙ ap (after_layer o e messages c.version (sent_at c l) (bits_under c l)) old.tape ∙ ap (λ k. after_layers o e messages c k start) same;
          done = filled_more (zero_layer o 0) drawn_by l layers x within (is ∙ ap (layer_script o e messages c.version (sent_at c l) (bits_under c l)) old.tape) old.done;
          rest = λ k h. get_or-set_other layers l k x (zero_layer o 0) (omega arith) ∙ old.rest k (omega arith);
        }

    pub replayed_whole : (given : List (LayerScript A)) (now : TapeState) (layers : List (LayerScript A)) → AreReplayed given (depth c) now layers
        → length layers ≡ depth c → layers ≡ layer_scripts o e messages c start
    replayed_whole given now layers h size = filled_whole (zero_layer o 0) drawn_by (depth c) layers size h.done
