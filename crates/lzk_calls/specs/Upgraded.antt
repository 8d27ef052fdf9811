-- What a program is told that wants a circuit in version 2.
use Rattle.std.specs.Prelude.{◌≡◌, ◌⊎◌, ℕ, List, Result, Err}
use Rattle.lzk_circbytes.specs.declared.any.AnyCircuit.{AnyCircuit}
use Rattle.lzk_circbytes.specs.Files.{CircuitBytes}
use Rattle.lzk_level.specs.Upgraded.{upgraded_any}
use Rattle.lzk_calls.specs.declared.refusal.Refusal.{Refusal}
use Rattle.lzk_calls.specs.declared.refusal.Refusal.TheVariants.{OutOfMemory}
use Rattle.lzk_calls.specs.Inputs.{IsUnread}
use Rattle.lzk_calls.specs.Room.{Puts}

-- the file of the circuit in version 2 is put, or there was no memory and the room is as it was
abbrev pub PutsUpgraded : AnyCircuit → List ℕ → List ℕ → Result ℕ Refusal → Type 0
PutsUpgraded c old new told =
    ((told ≡ Err OutOfMemory) × (new ≡ old))
    ⊎ ((bytes : List ℕ) × CircuitBytes (upgraded_any c) bytes × Puts bytes old new told)

-- what is told of a circuit's file, and becomes of a room: a refusal, and the room is as it was; or that
abbrev pub Upgrades : List ℕ → List ℕ → List ℕ → Result ℕ Refusal → Type 0
Upgrades circuit old new told =
    ((refusal : Refusal) × (told ≡ Err refusal) × IsUnread circuit refusal × (new ≡ old))
    ⊎ ((c : AnyCircuit) × CircuitBytes c circuit × PutsUpgraded c old new told)
