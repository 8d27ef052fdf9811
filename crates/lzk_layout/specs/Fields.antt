-- The fields of a proof's file, read from left to right, with the first check that fails.
use Rattle.lzk_profile.specs.Profile.{opened_count, most_digests, file_letter}
use Rattle.std.specs.Prelude.{◌≡◌, ℕ, zero, suc, ◌-◌, ◌≤◌, List, [], ◌∷◌, ◌++◌, length, take, drop, replicate, Option, Some, None, Result, Ok, Err, nat_lt, nat_le, ◌==◌, ◌&&◌, Bool, false, if◌then◌else◌}
use Rattle.std.specs.Int.{w32, from_le_bytes}
use Rattle.lzk_field.specs.Bytes.{number_from}
use Rattle.lzk_layout.specs.declared.params.Params.{Params}
use Rattle.lzk_layout.specs.declared.fault.ProofKind.{ProofKind}
use Rattle.lzk_layout.specs.declared.fault.ProofKind.TheVariants as kinds
use Rattle.lzk_layout.specs.declared.fault.Stop.{Stop}

-- what a field is: the magic, 32 bytes, an element, or the number of digests
pub data Sort : Type 0 where
  magic : Sort
  plain : Sort
  element : Sort
  count : Sort

-- how an element is written: in so many bytes, as a number below the field's size
pub record Shape : Type 0 where
  pub bytes : ℕ
  pub size : ℕ

abbrev pub shape : ℕ → ℕ → Shape
shape bytes size = record { bytes = bytes; size = size }

-- how many bytes a field has
abbrev pub width : Shape → Sort → ℕ
width shape magic = 4
width shape plain = 32
width shape element = shape.bytes
width shape count = 4

-- the file's first word, `LZP1` in LZK1
abbrev pub is_magic : List ℕ → Bool
is_magic (a ∷ b ∷ c ∷ d ∷ []) = (a == 76) && ((b == file_letter) && ((c == 80) && (d == 49)))
is_magic _ = false

-- the check that a whole field fails, if it fails one
unfoldable pub wrong : Shape → Sort → List ℕ → Option ProofKind
wrong shape magic field = if is_magic field then None else Some kinds.Magic
wrong shape plain field = None
wrong shape element field = if nat_lt (number_from field) shape.size then None else Some kinds.Element
wrong shape count field = if nat_le (from_le_bytes w32 field) most_digests then None else Some kinds.PathLimit

infixl 10 ◌>>=◌
abbrev pub ◌>>=◌ : {A B : Type 0} → Result A Stop → (A → Result B Stop) → Result B Stop
(Ok x) >>= f = f x
(Err e) >>= f = Err e

-- the field that begins these bytes fails a check
abbrev pub stops : {A : Type 0} → ProofKind → List ℕ → Result A Stop
stops kind bytes = Err (record { left = length bytes; kind = kind })

abbrev pub passes : Option ProofKind → List ℕ → List ℕ → List ℕ → Result (List ℕ × List ℕ) Stop
passes None bytes field rest = Ok (field, rest)
passes (Some kind) bytes field rest = stops kind bytes

-- the field that begins these bytes, and what is behind it
unfoldable pub field_at : Shape → Sort → List ℕ → Result (List ℕ × List ℕ) Stop
field_at shape s bytes =
    if nat_lt (length bytes) (width shape s) then stops kinds.Truncated bytes else
    let field = take (width shape s) bytes in passes (wrong shape s field) bytes field (drop (width shape s) bytes)

-- the fields of these sorts, one after the other, and what is behind them
unfoldable pub fields_at : Shape → List Sort → List ℕ → Result (List (List ℕ) × List ℕ) Stop
fields_at shape [] bytes = Ok ([], bytes)
fields_at shape (s ∷ ss) bytes = do
  field ← field_at shape s bytes
  fields ← fields_at shape ss field.1
  Ok (field.0 ∷ fields.0, fields.1)

-- the number of digests, and the digests
unfoldable pub path_at : Shape → List ℕ → Result (List (List ℕ) × List ℕ) Stop
path_at shape bytes = do
  n ← field_at shape count bytes
  digests ← fields_at shape (replicate (from_le_bytes w32 n.0) plain) n.1
  Ok (n.0 ∷ digests.0, digests.1)

-- the sorts of so many opened columns: to each nonce its column, of so many elements
abbrev pub opened_sorts : ℕ → ℕ → List Sort
opened_sorts rows zero = []
opened_sorts rows (suc n) = plain ∷ (replicate rows element ++ opened_sorts rows n)

-- the sorts of so many elements sent, and of answers of so many elements
abbrev pub answer_sorts : ℕ → ℕ → ℕ → ℕ → ℕ → List Sort
answer_sorts messages ldt dot quad_head quad_tail =
    replicate messages element ++ (replicate ldt element
    ++ (replicate dot element ++ (replicate quad_head element ++ replicate quad_tail element)))

-- the sorts of the fields before the number of digests
unfoldable pub sorts_of : Params → List Sort
sorts_of p =
    magic ∷ plain ∷ plain
    ∷ (answer_sorts p.nsum p.block p.dblock opened_count (p.dblock - p.block) ++ opened_sorts p.nrow opened_count)

-- all of the bytes as a proof's fields
unfoldable pub proof_at : Shape → Params → List ℕ → Result (List (List ℕ)) Stop
proof_at shape p bytes = do
  first ← fields_at shape (sorts_of p) bytes
  path ← path_at shape first.1
  if length path.1 == 0 then Ok (first.0 ++ path.0) else stops kinds.Trailing path.1

-- The bytes are no proof's file. The fields before offset are whole and pass their checks, and kind is the first check
-- that the field there fails; or all pass, and a byte is left there. The law FaultIsFirst, in FirstFaults.antt, says
-- this of the fields themselves.
abbrev pub ProofFaultAt : Shape → Params → List ℕ → ℕ → ProofKind → Type 0
ProofFaultAt shape p bytes offset kind =
    (proof_at shape p bytes ≡ Err (record { left = length bytes - offset; kind = kind })) × (offset ≤ length bytes)

-- a field that passes as one of this sort
pub record IsField (shape : Shape) (s : Sort) (field : List ℕ) : Type 0 where
  pub long : length field ≡ width shape s
  pub right : wrong shape s field ≡ None

-- as many fields as sorts, and each passes as one of its sort
abbrev pub AreFields : Shape → List Sort → List (List ℕ) → Type 0
AreFields shape [] [] = Unit {0}
AreFields shape (s ∷ ss) (f ∷ fs) = IsField shape s f × AreFields shape ss fs
AreFields shape [] (f ∷ fs) = ⊥
AreFields shape (s ∷ ss) [] = ⊥
