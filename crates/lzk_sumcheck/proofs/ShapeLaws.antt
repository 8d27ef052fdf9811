-- The lengths of scripts.
use Rattle.std.specs.Prelude.{◌≡◌, ℕ, ◌<◌, ◌+◌, ◌*◌, List, map, replicate, slice_get, Some}
use Rattle.std.specs.List.{range_with_len}
use Rattle.std.proofs.Common.{sym, ap, ◌∙◌, arith, subst}
use Rattle.std.proofs.lemmas.List.{length-replicate}
use Rattle.std.proofs.lemmas.List.FromFn.{get_or-map-range_with_len, length-map-range_with_len}
use Rattle.std.proofs.lemmas.Option.{slice_get_within, get_or_from_slice_get}
use Rattle.lzk_field.specs.Coding.{Coding}
use Rattle.lzk_field.specs.Ring.{Ops}
use Rattle.lzk_transcript.specs.Tape.{TapeState}
use Rattle.lzk_transcript.specs.Columns.{draw_at, after_draws}
use Rattle.lzk_circuit.specs.Valid.{Wiring}
use Rattle.lzk_layout.specs.Places.{depth, bits_under, output_bits, sent_at}
use Rattle.lzk_sumcheck.specs.declared.script.LayerScript.{LayerScript}
use Rattle.lzk_sumcheck.specs.declared.script.Script.{Script}
use Rattle.lzk_sumcheck.specs.Script.{after_first, round_challenge, layer_script, after_layers, script, HasBits, HasShape, zero_layer, zero_script}

-- what holds of each value holds of each entry
pub each_mapped : {X : Type 0} (P : ℕ → X → Type 0) (f : ℕ → X) (n : ℕ) → ((l : ℕ) → P l (f l)) → (l : ℕ) (x : X) → slice_get (map f (range_with_len 0 n)) l ≡ Some x → P l x
each_mapped P f n holds l x is =
    let xs = map f (range_with_len 0 n) in
    let h : l < n = omega (arith, slice_get_within xs l x is, length-map-range_with_len f 0 n) in
    let same : f l ≡ x = sym (get_or-map-range_with_len f 0 n l l x h (omega arith)) ∙ get_or_from_slice_get xs l x x is in
    subst (P l) same (holds l)

module _ {A : Type 0} (o : Ops A) (e : Coding A) (messages : List A) where
  pub layer_bits : (version i bits : ℕ) (t : TapeState) → HasBits bits (layer_script o e messages version i bits t)
  unfolding layer_script
  layer_bits version i bits t = record {
    ra = length-map-range_with_len (λ j. round_challenge o e messages i (after_first version t) (2 * j)) 0 bits;
    rb = length-map-range_with_len (λ j. round_challenge o e messages i (after_first version t) (2 * j + 1)) 0 bits;
  }

  pub script_shape : (c : Wiring A) (t : TapeState) → HasShape c (script o e messages c t)
  unfolding script
  script_shape c t =
      let start = after_draws (output_bits c) t in
      let f : ℕ → LayerScript A = λ l. layer_script o e messages c.version (sent_at c l) (bits_under c l) (after_layers o e messages c l start) in
      record {
        out_point = length-map-range_with_len (λ i. e.element (draw_at i t)) 0 (output_bits c);
        depth = length-map-range_with_len f 0 (depth c);
        layers = each_mapped (λ l layer. HasBits (bits_under c l) layer) f (depth c) (λ l. layer_bits c.version (sent_at c l) (bits_under c l) (after_layers o e messages c l start));
      }

module _ {A : Type 0} (o : Ops A) (c : Wiring A) where
  pub zero_shape : HasShape c (zero_script o c)
  zero_shape =
      let f : ℕ → LayerScript A = λ l. zero_layer o (bits_under c l) in
      record {
        out_point = length-replicate (output_bits c) o.zero;
        depth = length-map-range_with_len f 0 (depth c);
        layers = each_mapped (λ l layer. HasBits (bits_under c l) layer) f (depth c)
            (λ l. record { ra = length-replicate (bits_under c l) o.zero; rb = length-replicate (bits_under c l) o.zero });
      }

  -- by its parts
  pub zero_whole : (out : List A) (layers : List (LayerScript A)) (gamma : A) → out ≡ replicate (output_bits c) o.zero → layers ≡ (zero_script o c).layers → gamma ≡ o.zero
      → HasShape c (record { out_point = out; layers = layers; gamma = gamma })
  zero_whole out layers gamma a b z =
      let make : List A → List (LayerScript A) → A → Script A = λ xs ls x. record { out_point = xs; layers = ls; gamma = x } in
      subst (HasShape c)
      (sym (ap (λ xs. make xs layers gamma) a ∙ ap (λ ls. make (replicate (output_bits c) o.zero) ls gamma) b ∙ ap (make (replicate (output_bits c) o.zero) (zero_script o c).layers) z))
      zero_shape
