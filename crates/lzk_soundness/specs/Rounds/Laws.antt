-- Few answers of a step are bad, and where no answer of a run is, not all residuals are 0.
use Rattle.std.specs.Prelude.{◌≡◌, ℕ, ◌*◌, ◌^◌, ◌<◌, ◌≤◌, Bool, true, List, length}
use Rattle.lzk_field.specs.Coding.{Coding}
use Rattle.lzk_field.specs.Ring.{Ops}
use Rattle.lzk_field.specs.Sums.{entry}
use Rattle.lzk_soundness.specs.Chance.Draws.{count, draws_from}
use Rattle.lzk_soundness.specs.Chance.Few.{AreDistinct}
use Rattle.lzk_circuit.specs.Valid.{Wiring, IsValid}
use Rattle.lzk_layout.specs.Sizes.{committed_count}
use Rattle.lzk_layout.specs.Places.{depth}
use Rattle.lzk_soundness.specs.Sumchecks.Bad.{AreZero}
use Rattle.lzk_soundness.specs.Sumchecks.Claims.{HasProducts, Vanish}
use Rattle.lzk_soundness.specs.Draws.Schedule.{draw_count, draw_at, script_of}
use Rattle.lzk_soundness.specs.Draws.Game.{Target, table_of}
use Rattle.lzk_soundness.specs.Draws.Laws.{IsOf}
use Rattle.lzk_soundness.specs.Rounds.Steps.{Step, step_of, most_draws, degrees, draws_of, IsBadAnswer}
use Rattle.lzk_soundness.specs.Rounds.Steps.Step.{head}

-- What a step is asked for: a list of so many elements at least as it has draws. The answers of other steps stand
-- beside, and those of draws before are the same whatever this one's answer is.
pub record IsAnsweredBy {A : Type 0} (c : Wiring A) (step : Step) (others : Step → List A)
    (answers : List A → Step → List A) : Type 0 where
  pub own : (xs : List A) → answers xs step ≡ xs
  pub same : (xs : List A) (k : ℕ) → k < draw_count c → (step_of c (draw_at c k) ≡ step → ⊥)
      → answers xs (step_of c (draw_at c k)) ≡ others (step_of c (draw_at c k))

-- Of all lists of n elements, from a list without repetition, the share that are a bad answer of a step is at most a
-- sum of degrees over the list's length, whatever was drawn and sent before.
abbrev pub AnswersAreFew : {A : Type 0} → Ops A → Coding A → Type 0
AnswersAreFew {A} o e =
    (c : Wiring A) (public w : List A) (target : Target) (messages : List A) (step : Step) (others : Step → List A)
    (answers : List A → Step → List A) (n : ℕ) (test : List A → Bool) (ds : List A)
    → IsValid o c → length public ≡ c.publics → length w ≡ committed_count c → IsAnsweredBy c step others answers
    → most_draws c ≤ n
    → ((xs : List A) → length xs ≡ n → test xs ≡ true
    → IsBadAnswer o c public w target e.element (draws_of o c (answers xs)) messages step)
    → AreDistinct ds
    → count test (draws_from ds n) * length ds ≤ degrees c target step * length ds ^ n

-- The sum is at most three for each draw, and one for the step of the depth, at which gamma alone is drawn.
pub record DegreesAreFew {A : Type 0} (c : Wiring A) : Type 0 where
  pub all : (target : Target) (step : Step) → degrees c target step ≤ 3 * most_draws c
  pub last : (target : Target) → 1 ≤ depth c → degrees c target (head (depth c)) ≤ 1

-- A list that is committed to, with its products, by which the target is not 0, draws and sent elements. Where no draw
-- is bad for what was before it, not all residuals are 0.
abbrev pub CaughtWithoutBad : {A : Type 0} → Ops A → Coding A → Type 0
CaughtWithoutBad {A} o e =
    (c : Wiring A) (public w : List A) (target : Target) (draws messages : List A)
    → IsValid o c → length public ≡ c.publics → length w ≡ committed_count c → HasProducts o c public w
    → IsOf c target → (AreZero o (entry o (table_of o c public w target)) → ⊥)
    → length draws ≡ draw_count c
    → ((step : Step) → IsBadAnswer o c public w target e.element draws messages step → ⊥)
    → Vanish o c public w e.element (script_of o c draws) messages → ⊥
