-- The draws of the sumchecks in one list, in their order.
use Rattle.std.specs.Prelude.{ℕ, ◌+◌, ◌-◌, ◌*◌, ◌==◌, cond, nat_lt, List, map}
use Rattle.std.specs.List.{range_with_len}
use Rattle.std.proofs.Common.{zero, suc}
use Rattle.lzk_field.specs.Ring.{Ops}
use Rattle.lzk_field.specs.Sums.{entry}
use Rattle.lzk_circuit.specs.Valid.{Wiring}
use Rattle.lzk_layout.specs.Places.{depth, bits_under, output_bits, round_count}
use Rattle.lzk_sumcheck.specs.declared.script.LayerScript.{LayerScript}
use Rattle.lzk_sumcheck.specs.declared.script.Script.{Script}

-- what a draw is for: a coordinate of the outputs' point, a layer's alpha or beta, the challenge of a layer's round,
-- or gamma
pub data Draw : Type 0 where
  coordinate alpha beta : ℕ → Draw
  challenge : ℕ → ℕ → Draw
  gamma other : Draw

module _ {A : Type 0} (c : Wiring A) where
  -- how many draws a layer has before its rounds: alpha, and in version 2 beta
  abbrev pub firsts : ℕ
  firsts = cond (c.version == 2) 2 1

  -- the place of layer l's alpha among the draws, behind the outputs' point and the draws of the layers before it;
  -- gamma's for the depth
  abbrev pub drawn_at : ℕ → ℕ
  drawn_at zero = output_bits c
  drawn_at (suc l) = drawn_at l + firsts + round_count c l

  -- how many draws there are: gamma is the last
  abbrev pub draw_count : ℕ
  draw_count = drawn_at (depth c) + 1

  -- what draw k is for, counted from layer l's alpha, where so many layers are left
  abbrev pub draw_in : ℕ → ℕ → ℕ → Draw
  draw_in l zero k = cond (k == 0) gamma other
  draw_in l (suc left) k =
      cond (k == 0) (alpha l)
      (cond (nat_lt k firsts) (beta l) (cond (nat_lt k (firsts + round_count c l)) (challenge l (k - firsts))
      (draw_in (suc l) left (k - firsts - round_count c l))))

  -- what draw k is for
  abbrev pub draw_at : ℕ → Draw
  draw_at k = cond (nat_lt k (output_bits c)) (coordinate k) (draw_in 0 (depth c) (k - output_bits c))

module _ {A : Type 0} (o : Ops A) (c : Wiring A) (draws : List A) where
  -- layer l's draws
  abbrev pub layer_of : ℕ → LayerScript A
  layer_of l = record {
    alpha = entry o draws (drawn_at c l);
    beta = cond (c.version == 2) (entry o draws (drawn_at c l + 1)) o.zero;
    ra = map (λ j. entry o draws (drawn_at c l + firsts c + 2 * j)) (range_with_len 0 (bits_under c l));
    rb = map (λ j. entry o draws (drawn_at c l + firsts c + (2 * j + 1))) (range_with_len 0 (bits_under c l));
  }

  -- all draws of the sumchecks, from the list; those that it lacks are 0
  abbrev pub script_of : Script A
  script_of = record {
    out_point = map (λ j. entry o draws j) (range_with_len 0 (output_bits c));
    layers = map layer_of (range_with_len 0 (depth c));
    gamma = entry o draws (drawn_at c (depth c));
  }
