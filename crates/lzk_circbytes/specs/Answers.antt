-- What the calls of this crate answer.
use Rattle.std.specs.Prelude.{◌≡◌, ℕ, ◌<◌, ◌==◌, ◌||◌, Bool, false, List, [], ◌∷◌, length, drop, Option, Some, None, Result, Ok, Err, slice_index, slice_index_or, if◌then◌else◌}
use Rattle.lzk_goldilocks.specs.Prime.{field_byte}
use Rattle.lzk_circuit.specs.Valid.{Under, Wiring, IsValid}
use Rattle.lzk_goldilocks.specs.Elements as gold
use Rattle.lzk_gf128.specs.Elements as gf
use Rattle.lzk_circbytes.specs.declared.any.AnyCircuit.{AnyCircuit}
use Rattle.lzk_circbytes.specs.declared.any.AnyCircuit.TheVariants.{Gold, Gf}
use Rattle.lzk_circbytes.specs.declared.fault.ByteKind.TheVariants.{Trailing}
use Rattle.lzk_circbytes.specs.declared.fault.DecodeError.{DecodeError}
use Rattle.lzk_circbytes.specs.declared.fault.DecodeError.TheVariants as refused
use Rattle.lzk_circbytes.specs.declared.fault.ReadError.{ReadError}
use Rattle.lzk_circbytes.specs.declared.fault.ReadError.TheVariants as errors
use Rattle.lzk_circbytes.specs.Numbered.{numbered}
use Rattle.lzk_circbytes.specs.Reading.{Stop, ◌>>=◌, must, all_used}
use Rattle.lzk_circbytes.specs.Files.{CircuitBytes, CircuitFaultAt}

-- the first fault of the bytes, which are no circuit's; or memory ran out
abbrev pub IsFirstFault : List ℕ → DecodeError → Type 0
IsFirstFault bytes (refused.Fault f) = CircuitFaultAt bytes f.offset f.kind
IsFirstFault bytes refused.OutOfMemory = Unit {0}

-- no circuit has the bytes; or memory ran out
abbrev pub IsNoCircuit : List ℕ → DecodeError → Type 0
IsNoCircuit bytes (refused.Fault f) = (c : AnyCircuit) → ¬ CircuitBytes c bytes
IsNoCircuit bytes refused.OutOfMemory = Unit {0}

-- the field's byte and the numbers of a circuit
abbrev pub numbers_of : AnyCircuit → ℕ × Wiring ℕ
numbers_of (Gold c) = (field_byte, numbered gold.number c)
numbers_of (Gf c) = (2, numbered gf.number c)

-- the circuit is valid
abbrev pub IsValidCircuit : AnyCircuit → Type 0
IsValidCircuit (Gold c) = IsValid gold.ops c
IsValidCircuit (Gf c) = IsValid gf.ops c

-- What a reader returned, seen by view, is what reading gives, unless memory ran out.
abbrev pub Fails : {Y : Type 0} → ReadError → Result Y Stop → Type 0
Fails errors.OutOfMemory read = Unit {0}
Fails (errors.Stops left kind) read = read ≡ Err (record { left = left; kind = kind })

abbrev pub Gives : {X Y : Type 0} → (X → Y) → Result X ReadError → Result Y Stop → Type 0
Gives view (Ok x) read = read ≡ Ok (view x)
Gives view (Err e) read = Fails e read

-- ---- which constants were met

-- the flags of those numbers that pass the test were set, and the others stayed
abbrev pub Marks : List ℕ → (ℕ → Bool) → List Bool → List Bool → Type 0
Marks numbers test old new =
    (i : ℕ) → i < length numbers
    → slice_index_or new i false ≡ (slice_index_or old i false || test (slice_index numbers i))

-- the bytes from the first number on whose flag is not set
abbrev pub unmarked_from : ℕ → List Bool → List ℕ → Option (List ℕ)
unmarked_from width [] bytes = None
unmarked_from width (u ∷ us) bytes = if u then unmarked_from width us (drop width bytes) else Some bytes

-- the checks behind the last layer: that no number's flag is unset, and that no byte is left
abbrev pub end_at : Option (List ℕ) → List ℕ → Result (Unit {0}) Stop
end_at unmarked rest = do
  _ ← all_used unmarked
  must (length rest == 0) Trailing rest

abbrev pub under : ℕ → ℕ → ℕ → Under
under width wires terms = record { width = width; wires = wires; terms = terms }
