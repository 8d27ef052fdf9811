-- Circuit files: which bytes are a circuit's, and the first check that bytes fail.
use Rattle.std.specs.Prelude.{◌≡◌, ◌↔◌, ℕ, ◌-◌, ◌*◌, ◌^◌, ◌≤◌, List, [], ◌∷◌, length, drop, Result, Ok, Err, Contains, nat_lt, ◌==◌, ◌&&◌, Bool, true, false, if◌then◌else◌}
use Rattle.std.specs.List.Sorted.{IsStrictlyIncreasing}
use Rattle.sha2.specs.Sha256.{sha256}
use Rattle.lzk_profile.specs.Profile.{file_letter}
use Rattle.lzk_circuit.specs.Limits.{most_total}
use Rattle.lzk_field.specs.Coding.{Coding}
use Rattle.lzk_field.specs.Ring.{Ops}
use Rattle.lzk_circuit.specs.Valid.{Wiring, IsValid}
use Rattle.lzk_goldilocks.specs.Prime.{p, element_bytes, field_byte}
use Rattle.lzk_goldilocks.specs.Elements as gold
use Rattle.lzk_gf128.specs.Elements as gf
use Rattle.lzk_circbytes.specs.declared.any.AnyCircuit.{AnyCircuit}
use Rattle.lzk_circbytes.specs.declared.any.AnyCircuit.TheVariants.{Gold, Gf}
use Rattle.lzk_circbytes.specs.declared.fault.ByteKind.{ByteKind}
use Rattle.lzk_circbytes.specs.declared.fault.ByteKind.TheVariants.{Truncated, Magic, FieldId}
use Rattle.lzk_circbytes.specs.Numbered.{Shape, shape, numbered, coefficients, nonzero}
use Rattle.lzk_circbytes.specs.Reading.{Stop, ◌>>=◌, stops, wiring_at}
use Rattle.lzk_circbytes.specs.Spelling.{file_bytes, file_of}

-- The bytes are the file of a valid circuit over a field: its fields in order, with exactly its coefficients other than
-- 0 as constants, ascending.
pub record IsFile {A : Type 0} (o : Ops A) (number : A → ℕ) (shape : Shape) (c : Wiring A)
    (bytes : List ℕ) : Type 0 where
  pub valid : IsValid o c
  pub constants : List ℕ
  pub ascending : IsStrictlyIncreasing constants
  pub exact : (n : ℕ) → Contains constants n ↔ Contains (nonzero (coefficients (numbered number c).layers)) n
  pub bytes_are : bytes ≡ file_bytes shape (numbered number c) constants

abbrev pub goldilocks : Shape
goldilocks = shape field_byte element_bytes p

abbrev pub gf128 : Shape
gf128 = shape 2 16 (2 ^ 128)

-- the bytes are the file of a circuit over one of the two fields
abbrev pub CircuitBytes : AnyCircuit → List ℕ → Type 0
CircuitBytes (Gold c) bytes = IsFile gold.ops gold.number goldilocks c bytes
CircuitBytes (Gf c) bytes = IsFile gf.ops gf.number gf128 c bytes

-- SHA-256 of a circuit's file
abbrev pub circuit_id : Shape → Wiring ℕ → List ℕ
circuit_id shape c = sha256 (file_of shape c)

-- the same, of a circuit over a field that is written like this
abbrev pub id_of : {A : Type 0} → Coding A → Wiring A → List ℕ
id_of e c = circuit_id (shape e.id e.bytes e.size) (numbered e.number c)

-- the same, over either field
abbrev pub id_of_any : AnyCircuit → List ℕ
id_of_any (Gold c) = circuit_id goldilocks (numbered gold.number c)
id_of_any (Gf c) = circuit_id gf128 (numbered gf.number c)

-- ---- the first check that fails

abbrev pub begins_with : List ℕ → List ℕ → Bool
begins_with [] bytes = true
begins_with (a ∷ rest) [] = false
begins_with (a ∷ rest) (b ∷ bytes) = (a == b) && begins_with rest bytes

-- the field's byte, and the circuit of this version over that field
abbrev pub field_at : ℕ → List ℕ → Result (ℕ × Wiring ℕ) Stop
field_at version [] = stops Truncated []
field_at version (id ∷ bytes) =
    if id == field_byte then (do
      c ← wiring_at goldilocks version bytes
      Ok (field_byte, c)) else
    (if id == 2 then (do
      c ← wiring_at gf128 version bytes
      Ok (2, c)) else stops FieldId (id ∷ bytes))

-- a whole file: `LZC1` or `LZC2`, with the profile's letter, and the rest
unfoldable pub circuit_at : List ℕ → Result (ℕ × Wiring ℕ) Stop
circuit_at bytes =
    if nat_lt (length bytes) 4 then stops Truncated bytes else
    (if begins_with (76 ∷ file_letter ∷ 67 ∷ 49 ∷ []) bytes then field_at 1 (drop 4 bytes) else
    (if begins_with (76 ∷ file_letter ∷ 67 ∷ 50 ∷ []) bytes then field_at 2 (drop 4 bytes) else stops Magic bytes))

-- The bytes are no circuit's file. The fields before offset are whole and pass their checks, and kind is the first
-- check that the field there fails; or all pass, and the constant there is the first that no term uses, or a byte is
-- left there.
abbrev pub CircuitFaultAt : List ℕ → ℕ → ByteKind → Type 0
CircuitFaultAt bytes offset kind =
    (circuit_at bytes ≡ Err (record { left = length bytes - offset; kind = kind })) × (offset ≤ length bytes)

-- ---- what holds of all files

-- one file is one circuit's
abbrev pub OneCircuit : Type 0
OneCircuit = (bytes : List ℕ) (c d : AnyCircuit) → CircuitBytes c bytes → CircuitBytes d bytes → c ≡ d

-- one circuit has one file
abbrev pub OneFile : Type 0
OneFile = (c : AnyCircuit) (xs ys : List ℕ) → CircuitBytes c xs → CircuitBytes c ys → xs ≡ ys

-- bytes have one first fault
abbrev pub OneFault : Type 0
OneFault =
    (bytes : List ℕ) (m n : ℕ) (k l : ByteKind) → CircuitFaultAt bytes m k → CircuitFaultAt bytes n l
    → (m ≡ n) × (k ≡ l)

-- no circuit's file has a fault
abbrev pub NoFault : Type 0
NoFault =
    (c : AnyCircuit) (bytes : List ℕ) (offset : ℕ) (kind : ByteKind) → CircuitBytes c bytes
    → ¬ CircuitFaultAt bytes offset kind

-- how many bytes a circuit's file has at most, in LZK1 2^26
abbrev pub most_file : ℕ
most_file = 32 * most_total

-- no circuit's file has more
abbrev pub FilesFit : Type 0
FilesFit = (c : AnyCircuit) (bytes : List ℕ) → CircuitBytes c bytes → length bytes ≤ most_file
