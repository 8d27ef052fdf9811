-- What a cursor keeps of the bytes that it was pushed.
use Rattle.std.specs.Prelude.{◌≡◌, ℕ, List, length, Option}
use Rattle.lzk_layout.specs.declared.params.Params.{Params}
use Rattle.lzk_layout.specs.declared.fault.ProofFault.{ProofFault}
use Rattle.lzk_layout.specs.Fields.{Shape}
use Rattle.lzk_layout.specs.Files.{AreBytes}
use Rattle.lzk_layout.specs.Fronts.{digests_in, IsFront, IsFaulty}

-- Where a cursor stands: at its first fault; or behind so many whole fields, with the number of digests once it is
-- read, and with the bytes of the unfinished field.
pub data CursorPlace : Type 0 where
  faulty : ProofFault → CursorPlace
  reading : ℕ → Option ℕ → List ℕ → CursorPlace

-- the parameters whose files it reads, and where it stands
pub record CursorState : Type 0 where
  pub params : Params
  pub place : CursorPlace

-- so many whole fields, this number of digests and these bytes of an unfinished field are those of the bytes
pub record IsRead (s : Shape) (p : Params) (bytes : List ℕ) (whole : ℕ) (digests : Option ℕ)
    (rest : List ℕ) : Type 0 where
  pub fields : List (List ℕ)
  pub front : IsFront s p bytes fields rest
  pub whole_are : whole ≡ length fields
  pub digests_are : digests ≡ digests_in p fields

-- a cursor that stands there was pushed these bytes
abbrev pub StandsBehind : Shape → Params → List ℕ → CursorPlace → Type 0
StandsBehind s p bytes (faulty fault) = IsFaulty s p bytes fault
StandsBehind s p bytes (reading whole digests rest) = IsRead s p bytes whole digests rest

-- The cursor keeps the lengths of these parameters and, where the bytes have a fault other than Truncated, the first
-- such fault; and otherwise how many fields are whole in them, the number of digests once it is read, and the bytes of
-- the unfinished field.
pub record Pushed (s : Shape) (cursor : CursorState) (p : Params) (bytes : List ℕ) : Type 0 where
  pub are_bytes : AreBytes bytes
  pub lengths : cursor.params ≡ p
  pub stands : StandsBehind s p bytes cursor.place
