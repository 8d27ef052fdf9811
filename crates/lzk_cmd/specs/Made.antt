-- What `shacircuit` answers.
use Rattle.std.specs.Prelude.{◌≡◌, ◌⊎◌, ℕ, List, Some}
use Rattle.lzk_cmd_words.specs.Words.{ShaCircuit, command_of}
use Rattle.lzk_cmd.specs.Sights.{Before, After}

-- The words of `shacircuit` are done, or a put or a write failed, or there was no memory: no other status comes.
-- Neither shelf nor sink need tell its contents.
abbrev pub ShaCircuitIsMade : Before → After → Type 0
ShaCircuitIsMade before after =
    (count circuit : List ℕ) → command_of before.words ≡ Some (ShaCircuit count circuit)
    → (after.status ≡ 0) ⊎ ((after.status ≡ 5) ⊎ (after.status ≡ 6))
