-- Fields one after the other, each with its checks, and the first check that bytes fail: a fault without a reader.
use Rattle.std.specs.Prelude.{◌≡◌, ◌≢◌, ◌⊎◌, ℕ, zero, suc, ◌+◌, ◌-◌, ◌*◌, ◌^◌, ◌<◌, ◌≤◌, List, [], ◌∷◌, ◌++◌, length, take, Option, Some, None, Bool, if◌then◌else◌}
use Rattle.lzk_circbytes.specs.declared.fault.ByteKind.{ByteKind}
use Rattle.lzk_circbytes.specs.declared.fault.ByteKind.TheVariants as kinds

-- What stands from here on: a field of so many bytes, or a varint, then what follows it, which may depend on it; or the
-- end. A field's checks say by its bytes, and a varint's by its number, which kind it fails. At the end a place may be
-- named where something before it proves wrong.
pub data Fields : Type 0 where
  field : ℕ → (List ℕ → Option ByteKind) → (List ℕ → Fields) → Fields
  varint : (ℕ → Option ByteKind) → (ℕ → Fields) → Fields
  ends : Option ℕ → Fields

-- so many items, each by what the items before it left; and then what follows them all
abbrev pub items : {S A : Type 0} → (S → A → S) → (S → (A → Fields) → Fields) → ℕ → S → (List A → Fields) → Fields
items next item zero s after = after []
items next item (suc n) s after = item s (λ x. items next item n (next s x) (λ xs. after (x ∷ xs)))

-- a check with its kind
abbrev pub must_be : Bool → ByteKind → Option ByteKind
must_be holds kind = if holds then None else Some kind

-- the second check is looked at where the first passes
abbrev pub then_check : Option ByteKind → Option ByteKind → Option ByteKind
then_check None second = second
then_check (Some kind) second = Some kind

-- ---- varints

-- each of these bytes has the top bit
abbrev pub AreHigh : List ℕ → Type 0
AreHigh [] = Unit {0}
AreHigh (b ∷ bytes) = (128 ≤ b) × AreHigh bytes

-- the number of bytes with the top bit and a last one without it: seven bits a byte, the lowest first
abbrev pub septets_number : List ℕ → ℕ → ℕ
septets_number [] last = last
septets_number (b ∷ bytes) last = b - 128 + 128 * septets_number bytes last

-- The bytes begin with at most four that have the top bit, and then one without it.
pub record BeginsWith (bytes heads : List ℕ) (tail : ℕ) (rest : List ℕ) : Type 0 where
  pub are : bytes ≡ heads ++ tail ∷ rest
  pub high : AreHigh heads
  pub last : tail < 128
  pub few : length heads ≤ 4

-- the shortest form of a number below 2 ^ 32
abbrev pub IsShortest : List ℕ → ℕ → Type 0
IsShortest high last = ((high ≡ []) ⊎ (1 ≤ last)) × (septets_number high last < 2 ^ 32)

-- more than one byte and the last one 0, or a number from 2 ^ 32 on
abbrev pub IsNotShortest : List ℕ → ℕ → Type 0
IsNotShortest high last = ((1 ≤ length high) × (last ≡ 0)) ⊎ (2 ^ 32 ≤ septets_number high last)

-- five bytes have the top bit, or the varint that begins these is not in its one form
abbrev pub IsNoVarint : List ℕ → Type 0
IsNoVarint bytes =
    ((5 ≤ length bytes) × AreHigh (take 5 bytes))
    ⊎ ((high : List ℕ) × (last : ℕ) × (rest : List ℕ) × BeginsWith bytes high last rest × IsNotShortest high last)

-- the bytes end before a varint does, fewer than five being left; or none is there
abbrev pub FailsVarint : List ℕ → ByteKind → Type 0
FailsVarint bytes kind =
    ((kind ≡ kinds.Truncated) × (length bytes < 5) × AreHigh bytes) ⊎ ((kind ≡ kinds.Varint) × IsNoVarint bytes)

-- ---- the first check that fails

-- Where these fields are to begin at the place here, offset is that of the first field that fails a check, and kind is
-- the first check that it fails. A field may be not whole; or it is whole and fails a check; or it passes, and what
-- follows it has the fault. At the end what was named is the fault, and else a byte that is left.
abbrev pub FirstFault : Fields → ℕ → List ℕ → ℕ → ByteKind → Type 0
FirstFault (field width check next) here bytes offset kind =
    ((offset ≡ here) × (length bytes < width) × (kind ≡ kinds.Truncated))
    ⊎ ((f : List ℕ) × (rest : List ℕ) × (bytes ≡ f ++ rest) × (length f ≡ width)
    × (((offset ≡ here) × (check f ≡ Some kind))
    ⊎ ((check f ≡ None) × FirstFault (next f) (here + width) rest offset kind)))
FirstFault (varint check next) here bytes offset kind =
    ((offset ≡ here) × FailsVarint bytes kind)
    ⊎ ((high : List ℕ) × (last : ℕ) × (rest : List ℕ) × BeginsWith bytes high last rest × IsShortest high last
    × (((offset ≡ here) × (check (septets_number high last) ≡ Some kind))
    ⊎ ((check (septets_number high last) ≡ None)
    × FirstFault (next (septets_number high last)) (here + (length high + 1)) rest offset kind)))
FirstFault (ends (Some place)) here bytes offset kind = (offset ≡ place) × (kind ≡ kinds.Constant)
FirstFault (ends None) here bytes offset kind = (offset ≡ here) × (bytes ≢ []) × (kind ≡ kinds.Trailing)
