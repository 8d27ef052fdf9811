-- The steps of a verifier's tape in the sumchecks: behind which writes he draws, and what.
use Rattle.std.specs.Prelude.{◌≡◌, ℕ, ◌+◌, ◌*◌, ◌<◌, ◌≤◌, List, map, take}
use Rattle.std.specs.List.{range_with_len}
use Rattle.std.proofs.Common.{zero, suc}
use Rattle.lzk_field.specs.Ring.{Ops}
use Rattle.lzk_field.specs.Sums.{entry}
use Rattle.lzk_soundness.specs.Chance.Draws.{total_from}
use Rattle.lzk_circuit.specs.Valid.{Wiring}
use Rattle.lzk_layout.specs.Places.{depth, output_bits, round_count, sent_at}
use Rattle.lzk_soundness.specs.Draws.Schedule.{Draw, firsts, drawn_at, draw_count, draw_at, script_of}
use Rattle.lzk_soundness.specs.Draws.Schedule.Draw.{coordinate, alpha, beta, challenge, gamma, other}
use Rattle.lzk_soundness.specs.Draws.Game.{Target, IsBadDraw, degree}

-- A step: before the rounds of a layer, of which layer 0's comes behind the root, and behind the elements of a round.
-- The step of the depth comes behind the last layer's factors.
pub data Step : Type 0 where
  head : ℕ → Step
  round : ℕ → ℕ → Step

module _ {A : Type 0} (c : Wiring A) where
  -- a step that a tape of the circuit has
  abbrev pub IsStep : Step → Type 0
  IsStep (head l) = l ≤ depth c
  IsStep (round l n) = (l < depth c) × (n < round_count c l)

  -- how many elements are sent before it
  abbrev pub sent_before : Step → ℕ
  sent_before (head l) = sent_at c l
  sent_before (round l n) = sent_at c l + 2 * n + 2

  -- the place of its first draw among all draws of the sumchecks: layer 0's step has the outputs' point too
  abbrev pub first_of : Step → ℕ
  first_of (head zero) = 0
  first_of (head (suc l)) = drawn_at c (suc l)
  first_of (round l n) = drawn_at c l + firsts c + n

  -- at which step a draw is drawn
  abbrev pub step_of : Draw → Step
  step_of (coordinate j) = head 0
  step_of (alpha l) = head l
  step_of (beta l) = head l
  step_of (challenge l n) = round l n
  step_of gamma = head (depth c)
  step_of other = head (depth c)

  -- which of the step's elements it is
  abbrev pub place_in : Draw → ℕ
  place_in (coordinate j) = j
  place_in (alpha zero) = output_bits c
  place_in (alpha (suc l)) = 0
  place_in (beta zero) = output_bits c + 1
  place_in (beta (suc l)) = 1
  place_in (challenge l n) = 0
  place_in gamma = 0
  place_in other = 0

  -- no step has more draws than these
  abbrev pub most_draws : ℕ
  most_draws = output_bits c + 2

  -- the degrees of so many draws, from the step's first one on
  abbrev pub degrees : Target → Step → ℕ
  degrees target step = total_from (λ k. degree target (draw_at c k)) (first_of step) most_draws

-- all draws of the sumchecks, where each step has a list of elements as its answer
abbrev pub draws_of : {A : Type 0} → Ops A → Wiring A → (Step → List A) → List A
draws_of o c answers =
    map (λ k. entry o (answers (step_of c (draw_at c k))) (place_in c (draw_at c k))) (range_with_len 0 (draw_count c))

module _ {A : Type 0} (o : Ops A) (c : Wiring A) (public w : List A) (target : Target) (point : ℕ → A) where
  -- Draw k, of these draws, is bad for what was drawn and sent before it.
  abbrev pub IsBadAt : List A → List A → ℕ → Type 0
  IsBadAt draws messages k =
      IsBadDraw o c public w point (script_of o c (take k draws))
      (take (sent_before c (step_of c (draw_at c k))) messages) target (draw_at c k) (entry o draws k)

  -- A draw of this step is bad.
  pub record IsBadAnswer (draws messages : List A) (step : Step) : Type 0 where
    pub place : ℕ
    pub inside : place < draw_count c
    pub there : step_of c (draw_at c place) ≡ step
    pub bad : IsBadAt draws messages place
