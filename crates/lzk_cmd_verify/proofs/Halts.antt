-- How a run ends at a proof's file that was not read.
use Rattle.std.proofs.Common.{◌≡◌, List, ℕ, Result, Err, refl, inl, inr}
use Rattle.lzk_field.specs.Coding.{Coding}
use Rattle.lzk_field.specs.Ring.{Ops}
use Rattle.lzk_verify.specs.Kept.{DeskState}
use Rattle.lzk_cmd_files.specs.declared.ending.Halt.{Halt}
use Rattle.lzk_cmd_files.specs.declared.ending.Halt.TheVariants as halts
use Rattle.lzk_cmd_files.specs.declared.load.LoadFault.{LoadFault}
use Rattle.lzk_cmd_files.specs.declared.load.LoadFault.TheVariants.{Missing, TooLarge, Failed, OutOfMemory}
use Rattle.lzk_cmd_files.specs.Decoded.{proof_limit}
use Rattle.lzk_cmd_files.specs.Seen.{Seen, ReadFailed, Missed}
use Rattle.lzk_cmd_files.specs.Walks.{IsHaltOf}
use Rattle.lzk_cmd_verify.specs.Feeding.{Feeds, EndsAtProof}

-- a file that was not read
abbrev stopped_by : (R : Type 0) → LoadFault → Result R LoadFault
stopped_by R fault = Err fault

-- by what was told of the file, and the counts that rose
pub halts_at : {A R : Type 0} (o : Ops A) (e : Coding A) (old new : Seen) (name : List ℕ) (before after : DeskState A) (fault : LoadFault) (halt : Halt)
    → Feeds {A = A} {R = R} o e old.files name proof_limit before after (stopped_by R fault) → (stopped_by R fault ≡ stopped_by R Missing → Missed old new) → (stopped_by R fault ≡ stopped_by R Failed → ReadFailed old new)
    → IsHaltOf name proof_limit fault halt → EndsAtProof old new name halt
halts_at o e old new name before after fault halts.Memory told missed failed is = tt
halts_at o e old new name before after Missing (halts.End x) told missed failed is = inr (inl (missed refl, told, is))
halts_at o e old new name before after TooLarge (halts.End x) told missed failed is = inr (inr (told, is))
halts_at o e old new name before after Failed (halts.End x) told missed failed is = inl (failed refl, is)
halts_at o e old new name before after OutOfMemory (halts.End x) told missed failed is = absurd is
