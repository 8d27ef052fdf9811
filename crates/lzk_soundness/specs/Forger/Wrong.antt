-- What is wrong of a question: its answer is bad for the list that the table holds, or leaves it open that answers are
-- let through often; or the columns let through what is not let through often.
use Rattle.std.specs.Prelude.{◌≡◌, ◌⊎◌, ℕ, List, length}
use Rattle.std.proofs.Common.{inl, inr}
use Rattle.lzk_field.specs.Coding.{Coding}
use Rattle.lzk_field.specs.Ring.{Ops}
use Rattle.lzk_circuit.specs.Valid.{Wiring}
use Rattle.lzk_layout.specs.Places.{depth}
use Rattle.lzk_soundness.specs.Sumchecks.Claims.{Vanish}
use Rattle.lzk_soundness.specs.Draws.Schedule.{script_of}
use Rattle.lzk_soundness.specs.Count.Game.{IsPassed}
use Rattle.lzk_soundness.specs.Count.Laws.{Encodes}
use Rattle.lzk_soundness.specs.Rounds.Steps.{Step, IsBadAnswer}
use Rattle.lzk_soundness.specs.Rounds.Steps.Step.{head}
use Rattle.lzk_soundness.specs.Ligero.States.{sends, IsPassedOften, IsOpen}
use Rattle.lzk_soundness.specs.Ligero.Laws.{Held}
use Rattle.lzk_soundness.specs.Ligero.Laws.Held.{nothing, list}
use Rattle.lzk_soundness.specs.Forger.Questions.{Start, Question, Reply, IsFormed, rows_of, script_draws, all_draws, columns_for}
use Rattle.lzk_soundness.specs.Forger.Questions.Question.{sent, answered}

module _ {A : Type 0} (o : Ops A) (e : Coding A) (c : Wiring A) (code : Question A → ℕ) where
  -- it has as many public inputs as the circuit, and its table does not encode private ones that satisfy with these
  abbrev pub IsUnknowing : Start A → Type 0
  IsUnknowing start = (length start.public ≡ c.publics) × (Encodes o e c start.public (rows_of o c start) → ⊥)

  -- what a start's table holds, if it does not encode them
  abbrev pub Case : Start A → Type 0
  Case start = ((length start.public ≡ c.publics) × Held o e c start.public (rows_of o c start))
      ⊎ (IsUnknowing start → ⊥)

  module _ (start : Start A) (step : Step) (elements : List A) (oracle : List (Reply A)) where
    -- by what is drawn there are answers that are let through often
    abbrev pub IsLeftOpen : Type 0
    IsLeftOpen =
        IsOpen o e c start.public (rows_of o c start) elements (all_draws o c code oracle start elements)

    -- an answer to this step is wrong: by what the table holds
    abbrev pub ByHeld : Held o e c start.public (rows_of o c start) → Type 0
    ByHeld (nothing few) = (step ≡ head (depth c)) × IsLeftOpen
    ByHeld (list w target count products is wrong few) =
        IsBadAnswer o c start.public w target e.element (script_draws o c code oracle start elements) elements step
        ⊎ ((step ≡ head (depth c))
        × ((Vanish o c start.public w e.element (script_of o c (script_draws o c code oracle start elements)) elements
        → ⊥) × IsLeftOpen))

    -- never where the table encodes them
    abbrev pub ByCase : Case start → Type 0
    ByCase (inl held) = ByHeld held.1
    ByCase (inr n) = ⊥

    -- nor of a start that no question is of
    abbrev pub ByChoice : (E : Type 0) → Case start ⊎ E → Type 0
    ByChoice E (inl choice) = ByCase choice
    ByChoice E (inr n) = ⊥

  module _ (E : Start A → Type 0) (chosen : (start : Start A) → Case start ⊎ E start) where
    -- an answer to this question is wrong
    abbrev pub WrongQ : Question A → List (Reply A) → Type 0
    WrongQ (sent start step elements) oracle = ByChoice start step elements oracle (E start) (chosen start)
    WrongQ (answered start messages answers) oracle =
        IsPassed o e c start.public (sends (rows_of o c start) messages answers)
        (all_draws o c code oracle start messages) (columns_for o c code oracle start messages answers)
        × (IsPassedOften o e c start.public (sends (rows_of o c start) messages answers)
        (all_draws o c code oracle start messages) → ⊥)

    -- an answer to the question of this number is
    pub record IsWrong (oracle : List (Reply A)) (n : ℕ) : Type 0 where
      pub question : Question A
      pub formed : IsFormed c question
      pub number : code question ≡ n
      pub wrong : WrongQ question oracle
