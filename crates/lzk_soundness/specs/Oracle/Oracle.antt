-- Random oracles as lists of answers, and those who ask them.
use Rattle.std.specs.Prelude.{◌≡◌, ℕ, List, [], ◌∷◌, length}
use Rattle.std.specs.List.{AllByRecursion}
use Rattle.std.proofs.Common.{zero, suc}
use Rattle.lzk_soundness.specs.Chance.Few.{IsIn}

-- An oracle has an answer to each of so many questions, each answer an entry of a list. A question is the place of its
-- answer.
pub record IsOracle {X : Type 0} (answers : List X) (questions : ℕ) (oracle : List X) : Type 0 where
  pub count : length oracle ≡ questions
  pub each : AllByRecursion (λ x. IsIn x answers) oracle

-- the answer to a question, and the first of these to a question that there is not
abbrev pub answer : {X : Type 0} → X → List X → ℕ → X
answer none [] n = none
answer none (x ∷ xs) zero = x
answer none (x ∷ xs) (suc n) = answer none xs n

-- the oracle that gives another answer to one question
abbrev pub put : {X : Type 0} → ℕ → X → List X → List X
put n x [] = []
put zero x (y ∷ ys) = x ∷ ys
put (suc n) x (y ∷ ys) = y ∷ put n x ys

-- the first k questions of somebody who chooses each by the answers to those before it
abbrev pub asked : {X : Type 0} → X → (List X → ℕ) → List X → ℕ → List ℕ
asked none ask oracle zero = []
asked none ask oracle (suc k) = ask [] ∷ asked none (λ before. ask (answer none oracle (ask []) ∷ before)) oracle k

-- None of these questions is wrong when it is asked for the first time, behind others: what is wrong may depend on
-- those, the last one first, and on the answers to all questions.
abbrev pub AllRight : {X : Type 0} → (List ℕ → List X → ℕ → Type 0) → List ℕ → List X → List ℕ → Type 0
AllRight IsWrong earlier oracle [] = Unit {0}
AllRight IsWrong earlier oracle (n ∷ ns) =
    ((IsIn n earlier → ⊥) → IsWrong earlier oracle n → ⊥) × AllRight IsWrong (n ∷ earlier) oracle ns
