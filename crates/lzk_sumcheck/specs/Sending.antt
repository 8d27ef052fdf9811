-- What rounds send and draw, by the list of the elements that they send, two each.
use Rattle.std.specs.Prelude.{◌≡◌, ℕ, ◌+◌, ◌*◌, ◌<◌, List, [], ◌∷◌, take, drop}
use Rattle.std.proofs.Common.{zero, suc}
use Rattle.lzk_field.specs.Coding.{Coding}
use Rattle.lzk_field.specs.Ring.{Ops}
use Rattle.lzk_field.specs.Sums.{entry, minus}
use Rattle.lzk_transcript.specs.Tape.{TapeState, drawn, after_draw}
use Rattle.lzk_sumcheck.specs.Rounds.{Layered, round}
use Rattle.lzk_sumcheck.specs.Script.{with_pair}
use Rattle.lzk_sumcheck.specs.States.{State, bind_state, after, total}

module _ {A : Type 0} (o : Ops A) (e : Coding A) where
  -- the tape after so many rounds
  abbrev pub after_sent : List A → ℕ → TapeState → TapeState
  after_sent sent zero t = t
  after_sent sent (suc n) t = after_sent (drop 2 sent) n (after_draw (with_pair o e sent 0 t))

  -- their challenges
  abbrev pub drawn_sent : List A → ℕ → TapeState → List A
  drawn_sent sent zero t = []
  drawn_sent sent (suc n) t =
      e.element (drawn (with_pair o e sent 0 t)) ∷ drawn_sent (drop 2 sent) n (after_draw (with_pair o e sent 0 t))

-- the elements of so many rounds are what a state's rounds sum at points 0 and 2, less the pads
pub record AreSent {A : Type 0} (o : Ops A) (point : ℕ → A) (st : State A) (challenges pads sent : List A)
    (n : ℕ) : Type 0 where
  pub first : (i : ℕ) → i < n
      → entry o sent (2 * i)
      ≡ minus o (total o (bind_state o (point 0) (after o (take i challenges) st))) (entry o pads (2 * i))
  pub second : (i : ℕ) → i < n
      → entry o sent (2 * i + 1)
      ≡ minus o (total o (bind_state o (point 2) (after o (take i challenges) st))) (entry o pads (2 * i + 1))

-- the elements of a layer's rounds are the rounds' values at points 0 and 2, less the pads
pub record AreRoundsSent {A : Type 0} (o : Ops A) (point : ℕ → A) (s : Layered A)
    (challenges pads sent : List A) : Type 0 where
  pub first : (i : ℕ) → i < 2 * s.bits
      → entry o sent (2 * i) ≡ minus o (round o s (take i challenges) (point 0)) (entry o pads (2 * i))
  pub second : (i : ℕ) → i < 2 * s.bits
      → entry o sent (2 * i + 1) ≡ minus o (round o s (take i challenges) (point 2)) (entry o pads (2 * i + 1))
