-- The circuit of a file in version 2.
use Rattle.std.specs.Prelude.{◌≡◌, ℕ, ◌≤◌, List, length}
use Rattle.lzk_circbytes.specs.declared.any.AnyCircuit.{AnyCircuit}
use Rattle.lzk_circbytes.specs.Files.{CircuitBytes}
use Rattle.lzk_level.specs.Upgraded.{upgraded_any}
use Rattle.lzk_outside.specs.Outside.{Files}
use Rattle.lzk_cmd_files.specs.Decoded.{circuit_files, circuit_limit}
use Rattle.lzk_cmd_files.specs.Ends.{End, Stop, puts}
use Rattle.lzk_cmd_files.specs.Formats.{At}
use Rattle.lzk_cmd_files.specs.Lines.{upgraded_line}

-- The circuit's file of version 2 is put. It is within the limit of circuit files, as that of every circuit is, of
-- either version: there is no refusal for its size.
abbrev pub PutsUpgraded : AnyCircuit → List ℕ → Stop → End → Type 0
PutsUpgraded c name stop end =
    (bytes : List ℕ)
    × CircuitBytes (upgraded_any c) bytes
    × (length bytes ≤ circuit_limit)
    × (end ≡ puts stop name bytes (upgraded_line name (length bytes)))

-- The run reads the circuit of the old name, and puts it in version 2 under the new one.
unfoldable pub UpgradeRun : List ℕ → List ℕ → Files → Stop → End → Type 0
UpgradeRun old new files stop end = At circuit_files files stop 0 old end (λ c. PutsUpgraded c new stop end)
