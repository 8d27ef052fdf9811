-- How seldom a forger with so many questions names a run that passes.
use Rattle.lzk_shares.specs.Shares.{prime_size, column_share, least_size}
use Rattle.lzk_profile.specs.Profile.{opened_count}
use Rattle.std.specs.Prelude.{◌≡◌, ◌⊎◌, ℕ, ◌+◌, ◌-◌, ◌*◌, ◌^◌, ◌<◌, ◌≤◌, Bool, true, List, length}
use Rattle.std.specs.List.{AllByRecursion}
use Rattle.lzk_field.specs.Coding.{Coding}
use Rattle.lzk_field.specs.Ring.{Ops}
use Rattle.lzk_soundness.specs.Chance.Draws.{count, draws_from}
use Rattle.lzk_soundness.specs.Chance.Sets.{choose}
use Rattle.lzk_circuit.specs.Valid.{Wiring, IsValid}
use Rattle.lzk_layout.specs.Sizes.{params_of}
use Rattle.lzk_soundness.specs.Oracle.Oracle.{IsOracle, put, asked}
use Rattle.lzk_soundness.specs.Rounds.Steps.{most_draws}
use Rattle.lzk_soundness.specs.Chance.Few.{IsIn}
use Rattle.lzk_soundness.specs.Forger.Wrong.{Case, IsWrong}
use Rattle.lzk_soundness.specs.Forger.Questions.{Start, Question, Reply, TellsApart, all_replies, no_reply, Run, IsForged}

-- A forger of proofs for a valid circuit. He asks an oracle so many questions, each chosen by the answers before, and
-- then a test says yes only where he can name a run that passes and of which he asked all that its tape asks, though
-- its table does not encode private inputs that satisfy the circuit.
pub record IsForger {A : Type 0} (o : Ops A) (e : Coding A) (c : Wiring A) (code : Question A → ℕ) (questions tries : ℕ)
    (ask : List (Reply A) → ℕ) (wins : List (Reply A) → Bool) : Type 0 where
  pub valid : IsValid o c
  pub apart : TellsApart c code
  pub inside : (before : List (Reply A)) → ask before < questions
  pub only : (oracle : List (Reply A)) → IsOracle (all_replies e c) questions oracle → wins oracle ≡ true
      → (run : Run A) × IsForged o e c code oracle (asked no_reply ask oracle tries) run

-- One in `by` bounds the share of bad answers at each step: at most three elements are bad for each draw behind the
-- root or in the sumchecks, and BLOCK + 2 weights, over the number of elements; and of all sets of columns those among
-- three quarters of them, but for one.
pub record AreShares {A : Type 0} (e : Coding A) (c : Wiring A) (by : ℕ) : Type 0 where
  pub draws : 3 * most_draws c * by ≤ e.size
  pub weights : ((params_of c).block + 2) * by ≤ e.size
  pub columns : choose (3 * (params_of c).block - 1) opened_count * by ≤ choose (params_of c).mcol opened_count

-- A way to call the answer to a question wrong, round by round: whatever all other answers are, at most one in `by` of
-- the answers to a question is wrong; and where a run is forged, an answer to one of the questions that were asked is
-- wrong.
pub record AreDoomed {A : Type 0} (o : Ops A) (e : Coding A) (c : Wiring A) (code : Question A → ℕ) (questions by : ℕ)
    (Wrong : List (Reply A) → ℕ → Type 0) : Type 0 where
  pub few : (oracle : List (Reply A)) (n : ℕ) (test : Reply A → Bool) → length oracle ≡ questions → n < questions
      → ((x : Reply A) → test x ≡ true → Wrong (put n x oracle) n)
      → count test (all_replies e c) * by ≤ length (all_replies e c)
  pub caught : (oracle : List (Reply A)) (numbers : List ℕ) (run : Run A)
      → AllByRecursion (λ n. n < questions) numbers → IsForged o e c code oracle numbers run
      → AllByRecursion (λ n. Wrong oracle n → ⊥) numbers → ⊥

-- There are starts, and of each what its table holds, by which `IsWrong` is so (that there are none is false). So each
-- question wins by its own step's share alone.
abbrev pub StepsAreFew : {A : Type 0} → Ops A → Coding A → Type 0
StepsAreFew {A} o e =
    (c : Wiring A) (code : Question A → ℕ) (questions by : ℕ) → IsValid o c → TellsApart c code → AreShares e c by
    → least_size ≤ e.size
    → ((starts : List (Start A)) (chosen : (start : Start A) → Case o e c code start ⊎ (IsIn start starts → ⊥))
    → AreDoomed o e c code questions by (IsWrong o e c code (λ start. IsIn start starts → ⊥) chosen) → ⊥)
    → ⊥

-- So a forger wins by at most one oracle in `by` for each question.
abbrev pub ForgersAreRare : {A : Type 0} → Ops A → Coding A → Type 0
ForgersAreRare {A} o e =
    (c : Wiring A) (code : Question A → ℕ) (questions tries by : ℕ) (ask : List (Reply A) → ℕ)
    (wins : List (Reply A) → Bool)
    → IsForger o e c code questions tries ask wins → AreShares e c by → least_size ≤ e.size
    → count wins (draws_from (all_replies e c) questions) * by ≤ tries * length (all_replies e c) ^ questions

-- For every valid circuit, over a field of prime_size elements at least, it is one in column_share.
abbrev pub SharesAreSmall : {A : Type 0} → Ops A → Coding A → Type 0
SharesAreSmall {A} o e = (c : Wiring A) → IsValid o c → prime_size ≤ e.size → AreShares e c column_share

-- So he wins by at most one oracle in column_share for each question.
abbrev pub ForgersByTries : {A : Type 0} → Ops A → Coding A → Type 0
ForgersByTries {A} o e =
    (c : Wiring A) (code : Question A → ℕ) (questions tries : ℕ) (ask : List (Reply A) → ℕ)
    (wins : List (Reply A) → Bool)
    → IsForger o e c code questions tries ask wins → prime_size ≤ e.size
    → count wins (draws_from (all_replies e c) questions) * column_share
    ≤ tries * length (all_replies e c) ^ questions
