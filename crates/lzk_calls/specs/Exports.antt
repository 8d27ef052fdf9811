-- What each call writes for a program in C: the outcome of an end that the call may have.
use Rattle.std.specs.Prelude.{◌≡◌, ℕ, List, Result}
use Rattle.lzk_calls.specs.declared.outcome.Outcome.{Outcome}
use Rattle.lzk_calls.specs.declared.refusal.Refusal.{Refusal}
use Rattle.lzk_calls.specs.Outcomes.{outcome_of}
use Rattle.lzk_calls.specs.Compiled as compiled
use Rattle.lzk_calls.specs.Evaluated as evaluated
use Rattle.lzk_calls.specs.Hashed as hashed
use Rattle.lzk_calls.specs.Upgraded as upgraded

abbrev pub IsOutcome : (Result ℕ Refusal → Type 0) → Outcome → Type 0
IsOutcome Tells outcome = (told : Result ℕ Refusal) × Tells told × (outcome ≡ outcome_of told)

abbrev pub Compiles : ℕ → List ℕ → List ℕ → List ℕ → Outcome → Type 0
Compiles version text old new = IsOutcome (compiled.Compiles version text old new)

abbrev pub Evaluates : List ℕ → List ℕ → List ℕ → Outcome → Type 0
Evaluates circuit public private = IsOutcome (evaluated.Evaluates circuit public private)

abbrev pub Upgrades : List ℕ → List ℕ → List ℕ → Outcome → Type 0
Upgrades circuit old new = IsOutcome (upgraded.Upgrades circuit old new)

abbrev pub MakesHash : ℕ → List ℕ → List ℕ → Outcome → Type 0
MakesHash len old new = IsOutcome (hashed.MakesHash len old new)
