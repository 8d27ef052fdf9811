-- What a program is told that wants a circuit of SHA-256.
use Rattle.std.specs.Prelude.{◌≡◌, ◌<◌, ◌≤◌, ◌⊎◌, ℕ, List, Result, Err}
use Rattle.lzk_circbytes.specs.declared.any.AnyCircuit.TheVariants.{Gold}
use Rattle.lzk_circbytes.specs.Files.{CircuitBytes}
use Rattle.lzk_circuit.specs.Valid.{Wiring}
use Rattle.lzk_goldilocks.specs.declared.element.Gold.{Gold as GoldElement}
use Rattle.lzk_sha_circuit.specs.Circuits.{IsShaCircuit}
use Rattle.lzk_calls.specs.declared.refusal.Refusal.{Refusal}
use Rattle.lzk_calls.specs.declared.refusal.Refusal.TheVariants.{TooLong, OutOfMemory}
use Rattle.lzk_calls.specs.Room.{Puts}

-- the longest message of one block
abbrev pub most_message : ℕ
most_message = 55

-- the bytes are the file of a circuit for messages of so many bytes
abbrev pub IsShaFile : ℕ → List ℕ → Type 0
IsShaFile len bytes = (c : Wiring GoldElement) × IsShaCircuit len c × CircuitBytes (Gold c) bytes

-- why there is no circuit for messages of so many bytes; want of memory may come at any time
abbrev pub IsNoLength : ℕ → Refusal → Type 0
IsNoLength len TooLong = most_message < len
IsNoLength len OutOfMemory = Unit {0}
IsNoLength len other = ⊥

-- what is told of a length, and becomes of a room: a refusal, and the room is as it was; or the file is put
abbrev pub MakesHash : ℕ → List ℕ → List ℕ → Result ℕ Refusal → Type 0
MakesHash len old new told =
    ((refusal : Refusal) × (told ≡ Err refusal) × IsNoLength len refusal × (new ≡ old))
    ⊎ ((bytes : List ℕ) × (len ≤ most_message) × IsShaFile len bytes × Puts bytes old new told)
