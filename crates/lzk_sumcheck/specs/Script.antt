-- What the sumchecks draw from the tape, and the tape after them, as functions of the tape and the sent elements.
use Rattle.std.specs.Prelude.{◌≡◌, ℕ, ◌+◌, ◌*◌, ◌/◌, ◌%◌, ◌==◌, cond, List, [], length, map, replicate, slice_get, slice_index_or, Some}
use Rattle.std.proofs.Common.{zero, suc}
use Rattle.std.specs.List.{range_with_len}
use Rattle.lzk_field.specs.Coding.{Coding}
use Rattle.lzk_field.specs.Ring.{Ops}
use Rattle.lzk_field.specs.Sums.{entry}
use Rattle.lzk_transcript.specs.Tape.{TapeState, drawn, after_draw}
use Rattle.lzk_transcript.specs.Columns.{after_draws}
use Rattle.lzk_circuit.specs.Valid.{Wiring}
use Rattle.lzk_layout.specs.Places.{depth, bits_under, output_bits, sent_at}
use Rattle.lzk_sumcheck.specs.declared.script.LayerScript.{LayerScript}
use Rattle.lzk_sumcheck.specs.declared.script.Script.{Script}
use Rattle.lzk_sumcheck.specs.Draws.{draws, with_element}

-- beta, which a layer draws behind alpha in version 2 alone; in version 1 it is 0
unfoldable pub drawn_beta : {A : Type 0} → Ops A → Coding A → ℕ → TapeState → A
drawn_beta o e version t = cond (version == 2) (e.element (drawn t)) o.zero

-- the tape behind beta
unfoldable pub after_beta : ℕ → TapeState → TapeState
after_beta version t = cond (version == 2) (after_draw t) t

-- the tape behind what a layer draws before its rounds: alpha, and in version 2 beta
abbrev pub after_first : ℕ → TapeState → TapeState
after_first version t = after_beta version (after_draw t)

module _ {A : Type 0} (o : Ops A) (e : Coding A) (messages : List A) where
  -- the tape with two sent elements written, the first of which has number i
  abbrev pub with_pair : ℕ → TapeState → TapeState
  with_pair i t = with_element e (entry o messages (i + 1)) (with_element e (entry o messages i) t)

  -- the tape after n rounds, whose sent elements begin at number i: a round sends two elements and draws its challenge
  unfoldable pub after_rounds : ℕ → ℕ → TapeState → TapeState
  after_rounds i zero t = t
  after_rounds i (suc n) t = after_draw (with_pair (i + 2 * n) (after_rounds i n t))

  -- the challenge of round n, counting from 0
  unfoldable pub round_challenge : ℕ → TapeState → ℕ → A
  round_challenge i t n = e.element (drawn (with_pair (i + 2 * n) (after_rounds i n t)))

  -- What a layer draws whose sent elements begin at number i, and whose wires below are numbered by so many bits:
  -- alpha, in version 2 beta, and then the challenges of the rounds. For each bit, from bit 0, there is a round for
  -- this bit of a, and then one for it of b.
  unfoldable pub layer_script : ℕ → ℕ → ℕ → TapeState → LayerScript A
  layer_script version i bits t = record {
    alpha = e.element (drawn t);
    beta = drawn_beta o e version (after_draw t);
    ra = map (λ j. round_challenge i (after_first version t) (2 * j)) (range_with_len 0 bits);
    rb = map (λ j. round_challenge i (after_first version t) (2 * j + 1)) (range_with_len 0 bits);
  }

  -- the tape after that layer: behind its rounds it sends two factors
  unfoldable pub after_layer : ℕ → ℕ → ℕ → TapeState → TapeState
  after_layer version i bits t = with_pair (i + 4 * bits) (after_rounds i (2 * bits) (after_first version t))

  module _ (c : Wiring A) where
    -- the tape after the first l layers
    unfoldable pub after_layers : ℕ → TapeState → TapeState
    after_layers zero t = t
    after_layers (suc l) t = after_layer c.version (sent_at c l) (bits_under c l) (after_layers l t)

    -- what each layer draws, the outputs' first
    abbrev pub layer_scripts : TapeState → List (LayerScript A)
    layer_scripts t =
        map (λ l. layer_script c.version (sent_at c l) (bits_under c l) (after_layers l t)) (range_with_len 0 (depth c))

    -- the draws of the sumchecks: the point of the outputs, each layer's draws, and gamma
    unfoldable pub script : TapeState → Script A
    script t =
        let start = after_draws (output_bits c) t in
        record {
          out_point = draws e 0 (output_bits c) t;
          layers = layer_scripts start;
          gamma = e.element (drawn (after_layers (depth c) start));
        }

    -- the tape behind gamma
    unfoldable pub after_script : TapeState → TapeState
    after_script t = after_draw (after_layers (depth c) (after_draws (output_bits c) t))

-- ---- lengths

-- as many challenges of each kind as there are bits
pub record HasBits {A : Type 0} (bits : ℕ) (layer : LayerScript A) : Type 0 where
  pub ra : length layer.ra ≡ bits
  pub rb : length layer.rb ≡ bits

-- the lengths are those of the circuit
pub record HasShape {A : Type 0} (c : Wiring A) (s : Script A) : Type 0 where
  pub out_point : length s.out_point ≡ output_bits c
  pub depth : length s.layers ≡ depth c
  pub layers : (l : ℕ) (layer : LayerScript A) → slice_get s.layers l ≡ Some layer → HasBits (bits_under c l) layer

-- a layer's script of zeros
abbrev pub zero_layer : {A : Type 0} → Ops A → ℕ → LayerScript A
zero_layer o bits = record { alpha = o.zero; beta = o.zero; ra = replicate bits o.zero; rb = replicate bits o.zero }

-- a circuit's script of zeros
abbrev pub zero_script : {A : Type 0} → Ops A → Wiring A → Script A
zero_script o c = record {
  out_point = replicate (output_bits c) o.zero;
  layers = map (λ l. zero_layer o (bits_under c l)) (range_with_len 0 (depth c));
  gamma = o.zero;
}

-- ---- readers

module _ {A : Type 0} (o : Ops A) (s : Script A) where
  -- the draws of layer l
  abbrev pub layer_at : ℕ → LayerScript A
  layer_at l = slice_index_or s.layers l (record { alpha = o.zero; beta = o.zero; ra = []; rb = [] })

  -- the first point at which a claim on layer l's wires stands: the outputs' point at layer 0, and below it that of the
  -- layer above for a's bits
  abbrev pub point_a : ℕ → List A
  point_a zero = s.out_point
  point_a (suc l) = (layer_at l).ra

  -- the second one: that for b's bits
  abbrev pub point_b : ℕ → List A
  point_b zero = s.out_point
  point_b (suc l) = (layer_at l).rb

  -- the challenge of round n of layer l: the rounds are for bit 0 of a, bit 0 of b, bit 1 of a and so on
  abbrev pub challenge_at : ℕ → ℕ → A
  challenge_at l n = cond (n % 2 == 0) (entry o (layer_at l).ra (n / 2)) (entry o (layer_at l).rb (n / 2))

  -- the challenges of the first n rounds of layer l
  abbrev pub first_challenges : ℕ → ℕ → List A
  first_challenges l n = map (challenge_at l) (range_with_len 0 n)
