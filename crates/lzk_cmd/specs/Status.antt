-- What the program's words end with.
use Rattle.std.specs.Prelude.{◌≡◌, ◌⊎◌, ℕ, List}
use Rattle.lzk_cmd.specs.Promise.{Promise}
use Rattle.lzk_cmd.specs.Sights.{Before, After}

-- a run of these words, over what was there, answers this status
abbrev pub IsAnswered : List (List ℕ) → ℕ → Type 0
IsAnswered words status =
    (before : Before) × (after : After) × (before.words ≡ words) × (after.status ≡ status) × Promise before after

-- the program's own status is what a run of these words answers, or 6 where there was no memory for one
abbrev pub IsEndedBy : List (List ℕ) → ℕ → Type 0
IsEndedBy words status = IsAnswered words status ⊎ (status ≡ 6)
