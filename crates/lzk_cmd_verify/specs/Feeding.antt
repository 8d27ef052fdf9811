-- What reading a file in pieces answers, which a desk is fed. No clause of `run` cites these words.
use Rattle.std.specs.Prelude.{◌≡◌, ℕ, ◌<◌, List, [], length, Option, None, Result, Ok, Err, IfSome}
use Rattle.std.specs.Option.{IsSomeAnd}
use Rattle.lzk_circuit.specs.Valid.{Wiring}
use Rattle.lzk_field.specs.Coding.{Coding}
use Rattle.lzk_field.specs.Ring.{Ops}
use Rattle.lzk_outside.specs.Outside.{Files}
use Rattle.lzk_verify.specs.Kept.{DeskState, Stands}
use Rattle.lzk_cmd_files.specs.declared.ending.Halt.{Halt}
use Rattle.lzk_cmd_files.specs.declared.ending.Halt.TheVariants as halts
use Rattle.lzk_cmd_files.specs.declared.load.LoadFault.{LoadFault}
use Rattle.lzk_cmd_files.specs.declared.load.LoadFault.TheVariants.{Missing, TooLarge, Failed, OutOfMemory}
use Rattle.lzk_cmd_files.specs.Decoded.{proof_files, proof_limit}
use Rattle.lzk_cmd_files.specs.Ends.{End as Ended, Stop}
use Rattle.lzk_cmd_files.specs.Files.{IsFront}
use Rattle.lzk_cmd_files.specs.Formats.{HasFile, At}
use Rattle.lzk_cmd_files.specs.Seen.{Seen}
use Rattle.lzk_cmd_verify.specs.Verified.{Judged}
use Rattle.lzk_cmd_files.specs.Walks.{HasBytes, FileEnds}

-- a desk that stood behind no bytes stands behind these, whatever the session and the public inputs
abbrev pub IsFed : {A : Type 0} → Ops A → Coding A → DeskState A → DeskState A → List ℕ → Type 0
IsFed {A} o e old new bytes =
    (session : List ℕ) (public : List A) → Stands o e session public [] old → Stands o e session public bytes new

-- so many bytes of a file were read, and the desk was fed them
pub record IsFedFront {A : Type 0} (o : Ops A) (e : Coding A) (held : Option Files) (name : List ℕ)
    (old new : DeskState A) (count : ℕ) : Type 0 where
  pub front : List ℕ
  pub long : length front ≡ count
  pub file : IfSome held (λ files. IsFront (files name) front)
  pub fed : IsFed o e old new front

-- what feeding a file answers: the desk was fed all its bytes, or why not
abbrev pub Feeds : {A R : Type 0} → Ops A → Coding A → Option Files → List ℕ → ℕ → DeskState A → DeskState A
    → Result R LoadFault
    → Type 0
Feeds o e held name limit old new (Ok r) =
    (bytes : List ℕ) × IfSome held (λ files. HasFile (files name) limit bytes) × IsFed o e old new bytes
Feeds o e held name limit old new (Err Missing) = IfSome held (λ files. files name ≡ None)
Feeds o e held name limit old new (Err TooLarge) =
    IfSome held (λ files. IsSomeAnd (files name) (λ bytes. limit < length bytes))
Feeds o e held name limit old new (Err Failed) = Unit {0}
Feeds o e held name limit old new (Err OutOfMemory) = Unit {0}

-- the run ends at a proof's file, or for want of memory
abbrev pub EndsAtProof : Seen → Seen → List ℕ → Halt → Type 0
EndsAtProof old new name halts.Memory = Unit {0}
EndsAtProof old new name (halts.End ending) = FileEnds old new name proof_limit ending

-- what feeding a proof's file answers: the desk was fed all its bytes, or the run ends
abbrev pub FeedsOrEnds : {A R : Type 0} → Ops A → Coding A → Seen → Seen → List ℕ → DeskState A → DeskState A
    → Result R Halt
    → Type 0
FeedsOrEnds o e old new name before after (Ok r) =
    (bytes : List ℕ) × HasBytes old name proof_limit bytes × IsFed o e before after bytes
FeedsOrEnds o e old new name before after (Err halt) = EndsAtProof old new name halt

-- the walk at a proof's file, where the circuit and the public inputs are known
unfoldable pub JudgesFile : {A : Type 0} → Ops A → Coding A → Wiring A → List ℕ → List A → List ℕ → Files → Stop → Ended
    → Type 0
JudgesFile o e c session publics proof files stop end =
    At proof_files files stop 2 proof end (λ bytes. Judged o e c session publics bytes end)
