-- What the call that proves writes for a program in C: the outcome of an end that it may have.
use Rattle.std.specs.Prelude.{ℕ, List}
use Rattle.lzk_calls.specs.declared.outcome.Outcome.{Outcome}
use Rattle.lzk_calls.specs.Exports.{IsOutcome}
use Rattle.lzk_prove.specs.Proved as proved

abbrev pub Proves : List ℕ → List ℕ → List ℕ → List ℕ → List ℕ → List ℕ → List ℕ → Outcome → Type 0
Proves circuit public private session seed old new =
    IsOutcome (proved.Proves circuit public private session seed old new)
