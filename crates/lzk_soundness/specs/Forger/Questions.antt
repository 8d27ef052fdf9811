-- A verifier's tape as an oracle: what is asked at each step of a proof, and what is drawn of the answers.
use Rattle.std.specs.Prelude.{◌≡◌, ℕ, ◌+◌, ◌*◌, cond, nat_lt, List, [], ◌++◌, length, map, flat_map, take, drop}
use Rattle.lzk_field.specs.Coding.{Coding}
use Rattle.lzk_field.specs.Ring.{Ops}
use Rattle.lzk_field.specs.Sums.{entry}
use Rattle.lzk_soundness.specs.Chance.Draws.{draws_from}
use Rattle.lzk_soundness.specs.Chance.Few.{IsIn}
use Rattle.lzk_circuit.specs.Valid.{Wiring}
use Rattle.lzk_layout.specs.Places.{depth}
use Rattle.lzk_layout.specs.Sizes.{params_of}
use Rattle.lzk_soundness.specs.Count.Game.{column_sets, IsPassed}
use Rattle.lzk_soundness.specs.Extract.Extraction.{all_elements}
use Rattle.lzk_soundness.specs.Count.Laws.{Encodes}
use Rattle.lzk_soundness.specs.Rounds.Steps.{Step, IsStep, sent_before, most_draws, draws_of}
use Rattle.lzk_soundness.specs.Rounds.Steps.Step.{head}
use Rattle.lzk_soundness.specs.Ligero.States.{Answers, sends, all_weights}
use Rattle.lzk_soundness.specs.Oracle.Oracle.{answer}

-- what is written first: a session, public inputs, and a table of columns, one after another
pub record Start (A : Type 0) : Type 0 where
  pub session : List ℕ
  pub public : List A
  pub table : List A

-- What a verifier's tape may be asked, for a circuit: what was written when elements are drawn at a step of the
-- sumchecks, and at the last of them the weights too; and what was written when columns are drawn.
pub data Question (A : Type 0) : Type 0 where
  sent : Start A → Step → List A → Question A
  answered : Start A → List A → Answers A → Question A

-- An answer: elements and a set of columns, of which a question takes what it needs.
pub record Reply (A : Type 0) : Type 0 where
  pub elements : List A
  pub columns : List ℕ

module _ {A : Type 0} (c : Wiring A) where
  -- a question of this circuit's tape has as many elements as are sent before its step, and all at the end
  abbrev pub IsFormed : Question A → Type 0
  IsFormed (sent start step elements) = IsStep c step × (length elements ≡ sent_before c step)
  IsFormed (answered start messages answers) = length messages ≡ (params_of c).nsum

  -- the numbers of questions tell them apart
  abbrev pub TellsApart : (Question A → ℕ) → Type 0
  TellsApart code = (p q : Question A) → IsFormed p → IsFormed q → code p ≡ code q → p ≡ q

  -- how many elements an answer has: no fewer than any question needs
  abbrev pub reply_size : ℕ
  reply_size = 1 + all_weights c + most_draws c

-- all answers
abbrev pub all_replies : {A : Type 0} → Coding A → Wiring A → List (Reply A)
all_replies e c =
    flat_map (λ xs. map (λ s. record { elements = xs; columns = s }) (column_sets c))
    (draws_from (all_elements e) (reply_size c))

-- an answer to questions that there are not
abbrev pub no_reply : {A : Type 0} → Reply A
no_reply = record { elements = []; columns = [] }

-- row i of a start's table at column j
abbrev pub rows_of : {A : Type 0} → Ops A → Wiring A → Start A → ℕ → ℕ → A
rows_of o c start i j = entry o start.table (j * (params_of c).nrow + i)

module _ {A : Type 0} (o : Ops A) (c : Wiring A) (code : Question A → ℕ) (oracle : List (Reply A)) where
  -- what the oracle answers to a question
  abbrev pub reply : Question A → Reply A
  reply q = answer no_reply oracle (code q)

  module _ (start : Start A) (messages : List A) where
    -- what a tape is asked at a step
    abbrev pub asked_at : Step → Question A
    asked_at step = sent start step (take (sent_before c step) messages)

    -- what is drawn at a step by these elements: nothing before all are sent
    abbrev pub drawn_by : Step → List A → List A
    drawn_by step elements =
        cond (nat_lt (length elements) (sent_before c step)) [] (reply (sent start step elements)).elements

    -- all draws of the sumchecks
    abbrev pub script_draws : List A
    script_draws = draws_of o c (λ step. drawn_by step (take (sent_before c step) messages))

    -- the weights: behind gamma, in the answer of the last step
    abbrev pub weights : List A
    weights = take (all_weights c) (drop 1 (reply (asked_at (head (depth c)))).elements)

    -- both
    abbrev pub all_draws : List A
    all_draws = script_draws ++ weights

    -- the columns
    abbrev pub columns_for : Answers A → List ℕ
    columns_for answers = (reply (answered start messages answers)).columns

-- A run: what is written first, the elements and the answers.
pub record Run (A : Type 0) : Type 0 where
  pub start : Start A
  pub messages : List A
  pub answers : Answers A

-- The run passes by what the oracle draws, and all that its tape asks is among these questions; but the private inputs
-- that its table encodes do not satisfy the circuit, whether or not others would.
pub record IsForged {A : Type 0} (o : Ops A) (e : Coding A) (c : Wiring A) (code : Question A → ℕ)
    (oracle : List (Reply A)) (numbers : List ℕ) (run : Run A) : Type 0 where
  pub publics : length run.start.public ≡ c.publics
  pub unknowing : Encodes o e c run.start.public (rows_of o c run.start) → ⊥
  pub passes : IsPassed o e c run.start.public (sends (rows_of o c run.start) run.messages run.answers)
      (all_draws o c code oracle run.start run.messages)
      (columns_for o c code oracle run.start run.messages run.answers)
  pub steps : (step : Step) → IsStep c step → IsIn (code (asked_at o c code oracle run.start run.messages step)) numbers
  pub columns : IsIn (code (answered run.start run.messages run.answers)) numbers
