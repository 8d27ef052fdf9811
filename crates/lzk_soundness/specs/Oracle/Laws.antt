-- Of few oracles somebody hears a wrong answer.
use Rattle.std.specs.Prelude.{◌≡◌, ℕ, ◌*◌, ◌^◌, ◌<◌, ◌≤◌, Bool, true, false, List, [], ◌∷◌, length}
use Rattle.std.specs.List.{AllByRecursion}
use Rattle.std.proofs.Common.{suc}
use Rattle.lzk_soundness.specs.Chance.Draws.{count, draws_from, total_from}
use Rattle.lzk_soundness.specs.Chance.Few.{AreDistinct, IsIn}
use Rattle.lzk_soundness.specs.Oracle.Oracle.{IsOracle, answer, put, asked, AllRight}

-- Whatever was asked before, and whatever the answers to all other questions are: of all answers to a new question at
-- most so many in `by`, by how many were asked before, make it wrong.
abbrev pub IsWrongRarely : {X : Type 0} → List X → ℕ → ℕ → (ℕ → ℕ) → (List ℕ → List X → ℕ → Type 0) → Type 0
IsWrongRarely {X} answers questions by weight IsWrong =
    (earlier : List ℕ) (oracle : List X) (n : ℕ) (test : X → Bool) → length oracle ≡ questions → n < questions
    → (IsIn n earlier → ⊥) → ((x : X) → test x ≡ true → IsWrong earlier (put n x oracle) n)
    → count test answers * by ≤ weight (length earlier) * length answers

-- Somebody asks so many questions, and a test says yes to oracles by which some question of his is wrong.
pub record IsAsker {X : Type 0} (none : X) (answers : List X) (questions tries : ℕ)
    (IsWrong : List ℕ → List X → ℕ → Type 0) (ask : List X → ℕ) (wins : List X → Bool) : Type 0 where
  pub inside : (before : List X) → ask before < questions
  pub only : (oracle : List X) → IsOracle answers questions oracle → wins oracle ≡ true
      → AllRight IsWrong [] oracle (asked none ask oracle tries)
      → ⊥

-- Then it says yes to at most the sum of these shares of all oracles. The answers are things of which one can tell
-- whether two are the same, and what is wrong is told by a test.
abbrev pub TriesAddUp : Type 0 → Type 0
TriesAddUp X =
    (same : (x y : X) → Dec (x ≡ y)) (none : X) (answers : List X) (questions by tries : ℕ) (weight : ℕ → ℕ)
    (wrong : List ℕ → List X → ℕ → Bool) (ask : List X → ℕ) (wins : List X → Bool)
    → IsWrongRarely answers questions by weight (λ earlier oracle n. wrong earlier oracle n ≡ true)
    → IsAsker none answers questions tries (λ earlier oracle n. wrong earlier oracle n ≡ true) ask wins
    → count wins (draws_from answers questions) * by ≤ total_from weight 0 tries * length answers ^ questions

-- Where what is wrong does not depend on the order, and one in `by` at most makes it so: at most one oracle in `by` for
-- each question.
abbrev pub QueriesAreFew : Type 0 → Type 0
QueriesAreFew X =
    (same : (x y : X) → Dec (x ≡ y)) (none : X) (answers : List X) (questions by tries : ℕ)
    (wrong : List X → ℕ → Bool) (ask : List X → ℕ) (wins : List X → Bool)
    → ((oracle : List X) (n : ℕ) → length oracle ≡ questions → n < questions
    → count (λ x. wrong (put n x oracle) n) answers * by ≤ length answers)
    → ((before : List X) → ask before < questions)
    → ((oracle : List X) → IsOracle answers questions oracle → wins oracle ≡ true
    → AllByRecursion (λ n. wrong oracle n ≡ false) (asked none ask oracle tries) → ⊥)
    → count wins (draws_from answers questions) * by ≤ tries * length answers ^ questions

-- two different questions of the list have one answer
pub record Collide {X : Type 0} (none : X) (oracle : List X) (numbers : List ℕ) : Type 0 where
  pub first : ℕ
  pub second : ℕ
  pub first_asked : IsIn first numbers
  pub second_asked : IsIn second numbers
  pub differ : first ≡ second → ⊥
  pub alike : answer none oracle first ≡ answer none oracle second

-- The birthday bound: of all oracles with answers from a list without repetition, the share by which two different
-- questions have one answer is at most 0 + 1 + .. + (tries - 1) over the list's length.
abbrev pub CollisionsAreFew : Type 0 → Type 0
CollisionsAreFew X =
    (same : (x y : X) → Dec (x ≡ y)) (none : X) (answers : List X) (questions tries : ℕ) (ask : List X → ℕ)
    (wins : List X → Bool)
    → AreDistinct answers → ((before : List X) → ask before < questions)
    → ((oracle : List X) → IsOracle answers questions oracle → wins oracle ≡ true
    → Collide none oracle (asked none ask oracle tries))
    → count wins (draws_from answers questions) * length answers
    ≤ total_from (λ k. k) 0 tries * length answers ^ questions

-- The answer to a question is named by the question itself, or by one that was asked before it.
abbrev pub IsHit : {X : Type 0} → X → (ℕ → List X) → List ℕ → List X → ℕ → Type 0
IsHit none names earlier oracle n = (m : ℕ) × (IsIn m (n ∷ earlier) × IsIn (answer none oracle n) (names m))

-- Each question names so many answers at most. Of all oracles the share by which a question's answer was named before
-- is at most that number times 1 + 2 + .. + tries over the number of answers.
abbrev pub HitsAreFew : Type 0 → Type 0
HitsAreFew X =
    (same : (x y : X) → Dec (x ≡ y)) (none : X) (answers : List X) (questions tries most : ℕ) (names : ℕ → List X)
    (ask : List X → ℕ) (wins : List X → Bool)
    → AreDistinct answers → ((n : ℕ) → length (names n) ≤ most)
    → IsAsker none answers questions tries (IsHit none names) ask wins
    → count wins (draws_from answers questions) * length answers
    ≤ total_from (λ k. most * suc k) 0 tries * length answers ^ questions
