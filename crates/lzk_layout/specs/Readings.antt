-- One byte of a proof's file, as a cursor takes it.
use Rattle.lzk_profile.specs.Profile.{most_digests}
use Rattle.std.specs.Prelude.{◌≡◌, ℕ, ◌+◌, ◌-◌, ◌<◌, ◌≤◌, List, ◌++◌, take, replicate, slice_set, Option, Some, None, MatchOption, unwrap_or, slice_get}
use Rattle.std.specs.Int.{w32, from_le_bytes}
use Rattle.lzk_layout.specs.declared.part.ProofPart.{ProofPart}
use Rattle.lzk_layout.specs.declared.part.ProofPart.TheVariants.{Count}
use Rattle.lzk_layout.specs.declared.fault.ProofFault.{ProofFault}
use Rattle.lzk_layout.specs.declared.fault.ProofKind.{ProofKind}
use Rattle.lzk_layout.specs.declared.fault.ProofKind.TheVariants as kinds
use Rattle.lzk_layout.specs.declared.cursor.Reading.{Reading}
use Rattle.lzk_layout.specs.declared.cursor.CursorStep.{CursorStep}
use Rattle.lzk_layout.specs.declared.cursor.CursorStep.TheVariants.{More, Field, Fault}
use Rattle.lzk_layout.specs.Sizes.{AreBounded}
use Rattle.lzk_layout.specs.Fields.{Shape, wrong}
use Rattle.lzk_layout.specs.Parts.{sort_of, part_width, field_place}
use Rattle.lzk_layout.specs.Fronts.{known_parts}
use Rattle.lzk_layout.specs.Cursors.{CursorPlace, faulty, reading, CursorState}

-- where a cursor with this fault, or none, stands
abbrev pub place_of : Option ProofFault → Reading → CursorPlace
place_of (Some fault) r = faulty fault
place_of None r = reading r.fields r.digests (take r.held r.block)

abbrev pub state_of : Option ProofFault → Reading → CursorState
state_of fault r = record { params = r.params; place = place_of fault r }

-- what a reading keeps fits together: the part and the place of the field that is read, and its bytes in front of zeros
pub record IsSound (s : Shape) (r : Reading) : Type 0 where
  pub bounded : AreBounded r.params
  pub few : unwrap_or r.digests 0 ≤ most_digests
  pub part : r.part ≡ slice_get (known_parts r.params r.digests) r.fields
  pub offset : r.offset ≡ field_place s r.params (unwrap_or r.digests 0) r.fields
  pub held : MatchOption r.part (r.held ≡ 0) (λ part. r.held < part_width s part)
  pub zeros : r.block ≡ take r.held r.block ++ replicate (32 - r.held) 0

-- the number of digests, once a field of this part is read
abbrev pub digests_after : Option ℕ → ProofPart → List ℕ → Option ℕ
digests_after digests Count field = Some (from_le_bytes w32 field)
digests_after digests _ field = digests

-- what a reading becomes when the field of this part, the first n bytes of the block, passes
abbrev pub passed : Reading → ProofPart → List ℕ → ℕ → Reading
passed old part block n =
    let digests = digests_after old.digests part (take n block) in
    record {
      params = old.params;
      fields = old.fields + 1;
      digests = digests;
      part = slice_get (known_parts old.params digests) (old.fields + 1);
      offset = old.offset + n;
      held = 0;
      block = replicate 32 0;
    }

-- the byte is one more of an unfinished field
pub record TakesMore (s : Shape) (old : Reading) (byte : ℕ) (new : Reading) : Type 0 where
  pub part : ProofPart
  pub is : old.part ≡ Some part
  pub short : old.held + 1 < part_width s part
  pub new_is : new ≡ record old { held = old.held + 1; block = slice_set old.block old.held byte }

-- the byte ends a field that passes
pub record TakesField (s : Shape) (old : Reading) (byte : ℕ) (new : Reading) (part : ProofPart) (block : List ℕ)
    (n : ℕ) : Type 0 where
  pub is : old.part ≡ Some part
  pub long : old.held + 1 ≡ part_width s part
  pub number : n ≡ part_width s part
  pub block_is : block ≡ slice_set old.block old.held byte
  pub passes : wrong s (sort_of part) (take n block) ≡ None
  pub new_is : new ≡ passed old part block n

-- the check that a byte fails: the one of the field that it ends, or that no byte comes behind the last digest
abbrev pub FailsPart : Shape → Reading → ℕ → ProofKind → Option ProofPart → Type 0
FailsPart s old byte kind None = kind ≡ kinds.Trailing
FailsPart s old byte kind (Some part) =
    (old.held + 1 ≡ part_width s part)
    × (wrong s (sort_of part) (take (old.held + 1) (slice_set old.block old.held byte)) ≡ Some kind)

-- the byte fails a check
pub record TakesFault (s : Shape) (old : Reading) (byte : ℕ) (fault : ProofFault) : Type 0 where
  pub at : fault.offset ≡ old.offset
  pub fails : FailsPart s old byte fault.kind old.part

-- what becomes of a reading, and what it answers
abbrev pub Takes : Shape → Reading → ℕ → Reading → CursorStep → Type 0
Takes s old byte new More = TakesMore s old byte new
Takes s old byte new (Field part block n) = TakesField s old byte new part block n
Takes s old byte new (Fault fault) = TakesFault s old byte fault
