-- How a run ends that makes a circuit of SHA-256, and what the part that makes its file answers.
use Rattle.std.specs.Prelude.{◌≡◌, ◌≤◌, ℕ, List, length}
use Rattle.lzk_circbytes.specs.declared.any.AnyCircuit.TheVariants.{Gold}
use Rattle.lzk_circbytes.specs.Files.{CircuitBytes}
use Rattle.lzk_circuit.specs.Valid.{Wiring}
use Rattle.lzk_goldilocks.specs.declared.element.Gold.{Gold as GoldElement}
use Rattle.lzk_outside.specs.Outside.{Files}
use Rattle.lzk_sha_circuit.specs.Circuits.{IsShaCircuit}
use Rattle.lzk_cmd_circuits.specs.Compiled.{compiled_text}
use Rattle.lzk_cmd_files.specs.Decoded.{circuit_limit}
use Rattle.lzk_cmd_files.specs.Ends.{End, Stop, puts}

-- The run puts the file of some circuit for messages of so many bytes, and tells of it. It reads no file.
unfoldable pub ShaCircuitRun : ℕ → List ℕ → Files → Stop → End → Type 0
ShaCircuitRun len name files stop end =
    (c : Wiring GoldElement)
    × (bytes : List ℕ)
    × IsShaCircuit len c
    × CircuitBytes (Gold c) bytes
    × (length bytes ≤ circuit_limit)
    × (end ≡ puts stop name bytes (compiled_text name (Gold c) (length bytes)))

-- the bytes are the file of a circuit for messages of so many bytes, and the text tells of it
pub record IsShaFile (len : ℕ) (name bytes text : List ℕ) : Type 0 where
  pub made : Wiring GoldElement
  pub is : IsShaCircuit len made
  pub file : CircuitBytes (Gold made) bytes
  pub text_is : text ≡ compiled_text name (Gold made) (length bytes)
