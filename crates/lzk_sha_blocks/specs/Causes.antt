-- When a message has no circuit.
use Rattle.std.specs.Prelude.{ℕ, ◌<◌}
use Rattle.lzk_circuit_beside.specs.Levels as levels
use Rattle.lzk_circuit.specs.Valid.{Wiring}
use Rattle.lzk_goldilocks.specs.declared.element.Gold.{Gold}
use Rattle.lzk_sha_blocks.specs.declared.error.DigestError.{DigestError}
use Rattle.lzk_sha_blocks.specs.declared.error.DigestError.TheVariants.{TooLong, Beside, OutOfMemory}

-- it is too long, or its blocks, of which there are two or more, do not stand beside one another
abbrev pub IsCause : ℕ → DigestError → Type 0
IsCause len TooLong = 503 < len
IsCause len (Beside error) =
    (55 < len) × ((first : Wiring Gold) × (second : Wiring Gold) × levels.IsCause first second error)
IsCause len OutOfMemory = Unit {0}
