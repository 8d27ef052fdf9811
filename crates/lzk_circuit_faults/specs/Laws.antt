-- A circuit file's fault is the first check that its fields fail.
use Rattle.std.specs.Prelude.{◌≡◌, ◌↔◌, ◌⊎◌, ℕ, ◌<◌, List, slice_index_or}
use Rattle.lzk_circbytes.specs.declared.any.AnyCircuit.{AnyCircuit}
use Rattle.lzk_circbytes.specs.declared.fault.ByteKind.{ByteKind}
use Rattle.lzk_circbytes.specs.Files.{CircuitBytes, CircuitFaultAt}
use Rattle.lzk_circuit_faults.specs.Fields.{FirstFault}
use Rattle.lzk_circuit_faults.specs.Circuits.{file_fields}

-- the first check that the fields of a circuit's file fail in these bytes
abbrev pub IsFirstFault : List ℕ → ℕ → ByteKind → Type 0
IsFirstFault bytes offset kind = FirstFault file_fields 0 bytes offset kind

-- the fault that reading finds is the first, and the first is found
abbrev pub FaultIsFirst : Type 0
FaultIsFirst =
    (bytes : List ℕ) (offset : ℕ) (kind : ByteKind)
    → CircuitFaultAt bytes offset kind ↔ IsFirstFault bytes offset kind

-- bytes have one first fault
abbrev pub OneFirstFault : Type 0
OneFirstFault =
    (bytes : List ℕ) (m n : ℕ) (k l : ByteKind)
    → IsFirstFault bytes m k → IsFirstFault bytes n l → (m ≡ n) × (k ≡ l)

-- each number is below 256
abbrev pub AreBytes : List ℕ → Type 0
AreBytes bytes = (i : ℕ) → slice_index_or bytes i 0 < 256

-- bytes are the file of a circuit, or have a first fault
abbrev pub FileOrFault : Type 0
FileOrFault =
    (bytes : List ℕ) → AreBytes bytes
    → ((c : AnyCircuit) × CircuitBytes c bytes) ⊎ ((offset : ℕ) × (kind : ByteKind) × IsFirstFault bytes offset kind)

-- no circuit's file has a first fault
abbrev pub NeverBoth : Type 0
NeverBoth =
    (c : AnyCircuit) (bytes : List ℕ) (offset : ℕ) (kind : ByteKind)
    → CircuitBytes c bytes → ¬ IsFirstFault bytes offset kind
