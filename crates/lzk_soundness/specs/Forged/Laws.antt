-- A forger who wins now and then.
use Rattle.std.specs.Prelude.{◌≡◌, ℕ, ◌<◌, Bool, List, length}
use Rattle.lzk_field.specs.Coding.{Coding}
use Rattle.lzk_field.specs.Ring.{Ops}
use Rattle.lzk_soundness.specs.Chance.Draws.{count, draws_from}
use Rattle.lzk_circuit.specs.Valid.{Wiring, IsValid}
use Rattle.lzk_soundness.specs.Count.Laws.{Encodes, IsFalse}
use Rattle.lzk_soundness.specs.Worked.Zeros.{HasZeroMasks}
use Rattle.lzk_soundness.specs.Forger.Laws.{IsForger}
use Rattle.lzk_soundness.specs.Forger.Questions.{Start, Question, Reply, TellsApart, all_replies, rows_of}

-- a forger, and an oracle by which he wins
pub record SomeWin {A : Type 0} (o : Ops A) (e : Coding A) (c : Wiring A) (code : Question A → ℕ) : Type 0 where
  pub questions : ℕ
  pub tries : ℕ
  pub ask : List (Reply A) → ℕ
  pub wins : List (Reply A) → Bool
  pub forger : IsForger o e c code questions tries ask wins
  pub counted : 0 < count wins (draws_from (all_replies e c) questions)

-- For each valid circuit and each start whose table has zeros in rows 0 to 2 and does not encode satisfying inputs, and
-- each numbering that tells questions apart, there is one.
abbrev pub BluffersWin : {A : Type 0} → Ops A → Coding A → Type 0
BluffersWin {A} o e =
    (c : Wiring A) (start : Start A) (code : Question A → ℕ) → IsValid o c → length start.public ≡ c.publics
    → HasZeroMasks o (rows_of o c start) → (Encodes o e c start.public (rows_of o c start) → ⊥)
    → TellsApart c code → SomeWin o e c code

-- So for public inputs for which nobody has private ones.
abbrev pub ForgersWin : {A : Type 0} → Ops A → Coding A → Type 0
ForgersWin {A} o e =
    (c : Wiring A) (public : List A) (code : Question A → ℕ) → IsValid o c → length public ≡ c.publics
    → IsFalse o e c public → TellsApart c code → SomeWin o e c code

-- There is a numbering that tells the questions of every circuit apart.
pub record Numbering (A : Type 0) : Type 0 where
  pub code : Question A → ℕ
  pub apart : (c : Wiring A) → TellsApart c code

abbrev pub QuestionsHaveNumbers : Type 0 → Type 0
QuestionsHaveNumbers A = Numbering A
