-- What the steps of a run answer. No clause of `run` cites these words.
use Rattle.std.specs.Prelude.{◌≡◌, ◌⊎◌, ◌↔◌, ℕ, ◌<◌, ◌≤◌, true, false, IsTrue, List, length, take, Some, None, Vec, Result, Ok, Err, IfSome, string_bytes}
use Rattle.std.specs.Option.{IsSomeAnd}
use Rattle.std.specs.declared.alloc.Global.{Global}
use Rattle.lzk_outside.specs.Outside.{Files, Holds, Torn, Appends}
use Rattle.lzk_cmd_files.specs.declared.ending.Ending.{Ending}
use Rattle.lzk_cmd_files.specs.declared.ending.Halt.{Halt}
use Rattle.lzk_cmd_files.specs.declared.ending.Halt.TheVariants as halts
use Rattle.lzk_cmd_files.specs.declared.load.LoadFault.{LoadFault}
use Rattle.lzk_cmd_files.specs.declared.load.LoadFault.TheVariants.{Missing, TooLarge, Failed, OutOfMemory}
use Rattle.lzk_cmd_files.specs.Ends.{End as Ended, says, missing_file, Stop, Nowhere, AtPut, MayStop, stops_at, puts, Leaves}
use Rattle.lzk_cmd_files.specs.Formats.{Format, HasFile}
use Rattle.lzk_cmd_files.specs.Lines.{reading_line, larger_line}
use Rattle.lzk_cmd_files.specs.Refusals.{IsRefusal}
use Rattle.lzk_cmd_files.specs.Seen.{Seen, SeenSink, ReadFailed, PutFailed, Missed, WriteFailed}

-- the run's end, as the code has it
pub record IsEnding (end : Ended) (e : Ending) : Type 0 where
  pub status : end.status ≡ e.status
  pub text : end.text ≡ string_bytes e.text

-- ---- what is seen after a step

-- no count falls, and none rises of what never fails
pub record Moves (old new : Seen) : Type 0 where
  pub reads : old.reads ≤ new.reads
  pub puts : old.puts ≤ new.puts
  pub misses : old.misses ≤ new.misses
  pub never : new.never ≡ old.never
  pub uncounted_reads : IsTrue old.never → new.reads ≡ old.reads
  pub uncounted_puts : IsTrue old.never → new.puts ≡ old.puts

-- and no file is put
pub record OnlyReads (old new : Seen) : Type 0 where
  pub files : new.files ≡ old.files
  pub puts : new.puts ≡ old.puts
  pub reads : old.reads ≤ new.reads
  pub misses : old.misses ≤ new.misses
  pub never : new.never ≡ old.never
  pub uncounted : IsTrue old.never → new.reads ≡ old.reads

-- ---- what a step over a file answers

-- the file under this name has these bytes, where that is told
abbrev pub HasBytes : Seen → List ℕ → ℕ → List ℕ → Type 0
HasBytes old name limit bytes = IfSome old.files (λ files. HasFile (files name) limit bytes)

-- the walk ends at a file, whatever it has
abbrev pub FileEnds : Seen → Seen → List ℕ → ℕ → Ending → Type 0
FileEnds old new name limit e =
    (ReadFailed old new × IsEnding (says 4 (reading_line name)) e)
    ⊎ ((Missed old new × IfSome old.files (λ files. files name ≡ None) × IsEnding (missing_file name) e)
    ⊎ (IfSome old.files (λ files. IsSomeAnd (files name) (λ bytes. limit < length bytes))
    × IsEnding (says 3 (larger_line name limit)) e))

-- how a run ends at a file that was not read
abbrev pub IsEndingOf : List ℕ → ℕ → LoadFault → Ending → Type 0
IsEndingOf name limit Missing e = IsEnding (missing_file name) e
IsEndingOf name limit TooLarge e = IsEnding (says 3 (larger_line name limit)) e
IsEndingOf name limit Failed e = IsEnding (says 4 (reading_line name)) e
IsEndingOf name limit OutOfMemory e = ⊥

-- or for want of memory, which may come at any fault
abbrev pub IsHaltOf : List ℕ → ℕ → LoadFault → Halt → Type 0
IsHaltOf name limit fault halts.Memory = Unit {0}
IsHaltOf name limit fault (halts.End e) = IsEndingOf name limit fault e

-- the bytes of the file, or such an end
abbrev pub GivesBytes : Seen → Seen → List ℕ → ℕ → Result (Vec ℕ Global) Halt → Type 0
GivesBytes old new name limit (Ok v) = HasBytes old name limit v.items
GivesBytes old new name limit (Err halts.Memory) = Unit {0}
GivesBytes old new name limit (Err (halts.End e)) = FileEnds old new name limit e

-- what bytes of a format mean, or the end at their first fault
abbrev pub Decodes : {X F R : Type 0} → Format X F → (R → X) → List ℕ → List ℕ → Result R Halt → Type 0
Decodes format view name bytes (Ok r) = format.means bytes (view r)
Decodes format view name bytes (Err halts.Memory) = Unit {0}
Decodes {X} {F} format view name bytes (Err (halts.End e)) =
    (fault : F) × format.breaks bytes fault × IsEnding (format.refused name fault) e

-- what the file means, or the end at the file or at its bytes
abbrev pub Gives : {X F R : Type 0} → Format X F → (R → X) → Seen → Seen → List ℕ → Result R Halt → Type 0
Gives format view old new name (Ok r) =
    (bytes : List ℕ) × HasBytes old name format.limit bytes × format.means bytes (view r)
Gives format view old new name (Err halts.Memory) = Unit {0}
Gives {X} {F} format view old new name (Err (halts.End e)) =
    FileEnds old new name format.limit e
    ⊎ ((bytes : List ℕ)
    × HasBytes old name format.limit bytes
    × (fault : F)
    × format.breaks bytes fault
    × IsEnding (format.refused name fault) e)

-- ---- what a walk answers

-- each status has its cause, whether or not the shelf tells its files
pub record HasCause (no_command puts : Type 0) (old new : Seen) (end : Ended) : Type 0 where
  pub status : end.status ≤ 5
  pub words : (end.status ≡ 2) ↔ no_command
  pub refusal : end.status ≡ 3 → IsRefusal (Missed old new) end.text
  pub missing : end.missing ≡ true → Missed old new
  pub reading : end.status ≡ 4 → ReadFailed old new
  pub writing : end.status ≡ 5 → puts × PutFailed old new

-- the walk has this end from its k-th file on, for a stop that may be and that lets it come so far
pub record Settled (tail : Files → Stop → Ended → Type 0) (k : ℕ) (no_command puts : Type 0) (old new : Seen)
    (e : Ending) : Type 0 where
  pub stop : Stop
  pub end : Ended
  pub may : MayStop stop old new
  pub far : (j : ℕ) → j < k → stops_at stop j ≡ false
  pub is : IsEnding end e
  pub told : IfSome old.files (λ files. tail files stop end × Leaves files stop end.put new.files)
  pub cause : HasCause no_command puts old new end

-- such an end, or for want of memory nothing
abbrev pub Settles : (Files → Stop → Ended → Type 0) → ℕ → Type 0 → Type 0 → Seen → Seen → Result Ending Halt → Type 0
Settles tail k no_command puts old new (Ok e) = Settled tail k no_command puts old new e
Settles tail k no_command puts old new (Err halts.Memory) = IfSome old.files (λ files. new.files ≡ Some files)
Settles tail k no_command puts old new (Err (halts.End e)) = Settled tail k no_command puts old new e

-- a walk that puts nothing, and one that may put, from its k-th file on
abbrev pub Walks : (Files → Stop → Ended → Type 0) → ℕ → Seen → Seen → Result Ending Halt → Type 0
Walks tail k old new r = Settles tail k ⊥ ⊥ old new r

abbrev pub WalksToPut : (Files → Stop → Ended → Type 0) → ℕ → Seen → Seen → Result Ending Halt → Type 0
WalksToPut tail k old new r = Settles tail k ⊥ (Unit {0}) old new r

-- ---- what printing an end answers

abbrev pub AppendsFront : SeenSink → SeenSink → List ℕ → Type 0
AppendsFront old new text = (n : ℕ) × Appends old.written (take n text) new.written

-- the text is printed, with its status; or cut off by the sink; or by want of memory
abbrev pub Prints : SeenSink → SeenSink → ℕ → List ℕ → ℕ → Type 0
Prints old new status text result =
    ((result ≡ status) × Appends old.written text new.written)
    ⊎ (((result ≡ 5) × WriteFailed old new × AppendsFront old new text)
    ⊎ ((result ≡ 6) × AppendsFront old new text))

-- a run's end is printed, and its status answered; for want of memory nothing is printed
abbrev pub Concludes : SeenSink → SeenSink → Result Ending Halt → ℕ → Type 0
Concludes old new (Ok e) result = Prints old new e.status (string_bytes e.text) result
Concludes old new (Err halts.Memory) result = (result ≡ 6) × (new ≡ old)
Concludes old new (Err (halts.End e)) result = Prints old new e.status (string_bytes e.text) result

-- no write fails of what never fails, and it stays so
pub record Quiet (old new : SeenSink) : Type 0 where
  pub never : new.never ≡ old.never
  pub uncounted : IsTrue old.never → new.faults ≡ old.faults

-- a put that was done, or that failed
abbrev pub Puts : List ℕ → List ℕ → List ℕ → Seen → Seen → Result Ending Halt → Type 0
Puts name bytes text old new (Ok e) =
    (Holds old.files name bytes new.files × IsEnding (puts Nowhere name bytes text) e)
    ⊎ (PutFailed old new × Torn old.files name bytes new.files × IsEnding (puts AtPut name bytes text) e)
Puts name bytes text old new (Err halts.Memory) = new.files ≡ old.files
Puts name bytes text old new (Err (halts.End e)) = ⊥

-- the end of a put that was done or that failed, or there is no memory
abbrev pub EndsAtPut : Result Ending Halt → Type 0
EndsAtPut (Ok e) = (e.status ≡ 0) ⊎ (e.status ≡ 5)
EndsAtPut (Err halts.Memory) = Unit {0}
EndsAtPut (Err (halts.End e)) = ⊥
