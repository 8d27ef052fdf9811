-- Tapes after draws and rounds.
use Rattle.std.specs.Prelude.{◌≡◌, ℕ, ◌<◌, ◌+◌, ◌*◌, List, length, map, slice_set}
use Rattle.std.specs.List.{range_with_len}
use Rattle.std.proofs.Common.{suc, ap, ◌∙◌, arith}
use Rattle.lzk_field.specs.Coding.{Coding}
use Rattle.lzk_field.specs.Ring.{Ops}
use Rattle.lzk_transcript.specs.Tape.{TapeState, drawn, after_draw}
use Rattle.lzk_transcript.specs.Columns.{after_draws}
use Rattle.lzk_sumcheck.specs.Script.{drawn_beta, after_first, with_pair, after_rounds, round_challenge, layer_script}
use Rattle.lzk_sumcheck.specs.declared.script.LayerScript.{LayerScript}
use Rattle.lzk_sumcheck.proofs.Filled.{IsFilled, filled_more, filled_whole}

pub draws_more : (n : ℕ) (start now : TapeState) → now ≡ after_draws n start → after_draw now ≡ after_draws (n + 1) start
unfolding after_draws
draws_more n start now e = let next : suc n ≡ n + 1 = omega arith in ap after_draw e ∙ ap (λ k. after_draws k start) next

module _ {A : Type 0} (o : Ops A) (e : Coding A) (messages : List A) (i : ℕ) (start : TapeState) where
  -- the tape after both rounds of the first j bits, and their challenges
  pub record AreRounds (j : ℕ) (now : TapeState) (xa xb : List A) : Type 0 where
    pub tape : now ≡ after_rounds o e messages i (2 * j) start
    pub ra : IsFilled o.zero (λ k. round_challenge o e messages i start (2 * k)) j xa
    pub rb : IsFilled o.zero (λ k. round_challenge o e messages i start (2 * k + 1)) j xb

  -- the round of a bit of a
  pub first_challenge : (j : ℕ) (now : TapeState) → now ≡ after_rounds o e messages i (2 * j) start
      → e.element (drawn (with_pair o e messages (i + 4 * j) now)) ≡ round_challenge o e messages i start (2 * j)
  unfolding round_challenge
  first_challenge j now is =
      let place : i + 4 * j ≡ i + 2 * (2 * j) = omega arith in
      ap (λ k. e.element (drawn (with_pair o e messages k now))) place ∙ ap (λ t. e.element (drawn (with_pair o e messages (i + 2 * (2 * j)) t))) is

  pub first_after : (j : ℕ) (now : TapeState) → now ≡ after_rounds o e messages i (2 * j) start
      → after_draw (with_pair o e messages (i + 4 * j) now) ≡ after_rounds o e messages i (suc (2 * j)) start
  unfolding after_rounds
  first_after j now is =
      let place : i + 4 * j ≡ i + 2 * (2 * j) = omega arith in
      ap (λ k. after_draw (with_pair o e messages k now)) place ∙ ap (λ t. after_draw (with_pair o e messages (i + 2 * (2 * j)) t)) is

  -- the round of that bit of b
  pub second_challenge : (j : ℕ) (now : TapeState) → now ≡ after_rounds o e messages i (suc (2 * j)) start
      → e.element (drawn (with_pair o e messages (i + 4 * j + 2) now)) ≡ round_challenge o e messages i start (2 * j + 1)
  unfolding round_challenge
  second_challenge j now is =
      let place : i + 4 * j + 2 ≡ i + 2 * suc (2 * j) = omega arith in
      let next : suc (2 * j) ≡ 2 * j + 1 = omega arith in
      ap (λ k. e.element (drawn (with_pair o e messages k now))) place ∙ ap (λ t. e.element (drawn (with_pair o e messages (i + 2 * suc (2 * j)) t))) is
      ∙ ap (round_challenge o e messages i start) next

  pub second_after : (j : ℕ) (now : TapeState) → now ≡ after_rounds o e messages i (suc (2 * j)) start
      → after_draw (with_pair o e messages (i + 4 * j + 2) now) ≡ after_rounds o e messages i (2 * (j + 1)) start
  unfolding after_rounds
  second_after j now is =
      let place : i + 4 * j + 2 ≡ i + 2 * suc (2 * j) = omega arith in
      let next : suc (suc (2 * j)) ≡ 2 * (j + 1) = omega arith in
      ap (λ k. after_draw (with_pair o e messages k now)) place ∙ ap (λ t. after_draw (with_pair o e messages (i + 2 * suc (2 * j)) t)) is
      ∙ ap (λ n. after_rounds o e messages i n start) next

  -- both rounds of one more bit
  pub more_rounds : (j : ℕ) (now mid after : TapeState) (xa xb : List A) (x y : A) → AreRounds j now xa xb → j < length xa → j < length xb
      → x ≡ e.element (drawn (with_pair o e messages (i + 4 * j) now)) → mid ≡ after_draw (with_pair o e messages (i + 4 * j) now)
      → y ≡ e.element (drawn (with_pair o e messages (i + 4 * j + 2) mid)) → after ≡ after_draw (with_pair o e messages (i + 4 * j + 2) mid)
      → AreRounds (j + 1) after (slice_set xa j x) (slice_set xb j y)
  more_rounds j now mid after xa xb x y old wa wb first half second whole =
      let between = half ∙ first_after j now old.tape in
      record {
        tape = whole ∙ second_after j mid between;
        ra = filled_more o.zero (λ k. round_challenge o e messages i start (2 * k)) j xa x wa (first ∙ first_challenge j now old.tape) old.ra;
        rb = filled_more o.zero (λ k. round_challenge o e messages i start (2 * k + 1)) j xb y wb (second ∙ second_challenge j mid between) old.rb;
      }

  -- a layer's script, by its parts
  pub layer_whole : (version bits : ℕ) (before : TapeState) (s : LayerScript A) → start ≡ after_first version before → s.alpha ≡ e.element (drawn before)
      → s.beta ≡ drawn_beta o e version (after_draw before)
      → length s.ra ≡ bits → length s.rb ≡ bits
      → IsFilled o.zero (λ k. round_challenge o e messages i start (2 * k)) bits s.ra
      → IsFilled o.zero (λ k. round_challenge o e messages i start (2 * k + 1)) bits s.rb
      → s ≡ layer_script o e messages version i bits before
  unfolding layer_script
  layer_whole version bits before s begins first second na nb fa fb =
      let xa = filled_whole o.zero (λ k. round_challenge o e messages i start (2 * k)) bits s.ra na fa in
      let xb = filled_whole o.zero (λ k. round_challenge o e messages i start (2 * k + 1)) bits s.rb nb fb in
      let alpha = e.element (drawn before) in
      let beta = drawn_beta o e version (after_draw before) in
      let make : A → A → List A → List A → LayerScript A = λ x y ys zs. record { alpha = x; beta = y; ra = ys; rb = zs } in
      ap (λ x. make x s.beta s.ra s.rb) first ∙ ap (λ y. make alpha y s.ra s.rb) second ∙ ap (λ ys. make alpha beta ys s.rb) xa
      ∙ ap (λ zs. make alpha beta (map (λ k. round_challenge o e messages i start (2 * k)) (range_with_len 0 bits)) zs) xb
      ∙ ap (λ t. make alpha beta (map (λ k. round_challenge o e messages i t (2 * k)) (range_with_len 0 bits)) (map (λ k. round_challenge o e messages i t (2 * k + 1)) (range_with_len 0 bits))) begins
