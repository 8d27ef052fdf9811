-- The first fault of a proof's file, by its fields: what a fault is, without a reader.
use Rattle.std.specs.Prelude.{◌≡◌, ◌≢◌, ◌↔◌, ◌⊎◌, ℕ, ◌<◌, ◌≤◌, List, [], ◌++◌, length, map, take, Option, Some, None}
use Rattle.lzk_layout.specs.declared.params.Params.{Params}
use Rattle.lzk_layout.specs.declared.part.ProofPart.{ProofPart}
use Rattle.lzk_layout.specs.declared.fault.ProofKind.{ProofKind}
use Rattle.lzk_layout.specs.declared.fault.ProofKind.TheVariants as kinds
use Rattle.lzk_layout.specs.Proofs.{flat}
use Rattle.lzk_layout.specs.Fields.{Shape, wrong, AreFields, ProofFaultAt}
use Rattle.lzk_layout.specs.Parts.{sort_of, part_width}
use Rattle.lzk_layout.specs.Fronts.{digests_in, known_parts, next_part}

-- The rest, where the field of this part is to begin, fails this check: the bytes end before the field does, or it is
-- whole and wrong. Where no part comes, a byte is left.
abbrev pub FailsNext : Shape → Option ProofPart → List ℕ → ProofKind → Type 0
FailsNext s None rest kind = (rest ≢ []) × (kind ≡ kinds.Trailing)
FailsNext s (Some part) rest kind =
    ((length rest < part_width s part) × (kind ≡ kinds.Truncated))
    ⊎ ((part_width s part ≤ length rest) × (wrong s (sort_of part) (take (part_width s part) rest) ≡ Some kind))

-- The bytes are some fields and the rest. The fields are the first of a file's, they are whole and each passes its
-- check. The rest begins at the offset, and the check that it fails is the kind.
pub record IsFirstFault (s : Shape) (p : Params) (bytes : List ℕ) (offset : ℕ) (kind : ProofKind) : Type 0 where
  pub fields : List (List ℕ)
  pub rest : List ℕ
  pub are : bytes ≡ flat fields ++ rest
  pub pass : AreFields s (map sort_of (take (length fields) (known_parts p (digests_in p fields)))) fields
  pub begins : offset ≡ length (flat fields)
  pub fails : FailsNext s (next_part p fields) rest kind

-- the fault that reading finds is the first, and the first is found
abbrev pub FaultIsFirst : Shape → Params → Type 0
FaultIsFirst s p =
    (bytes : List ℕ) (offset : ℕ) (kind : ProofKind)
    → ProofFaultAt s p bytes offset kind ↔ IsFirstFault s p bytes offset kind
