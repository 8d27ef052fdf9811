-- A seed that is drawn from the system's random bytes.
use Rattle.std.specs.Prelude.{◌≡◌, ◌⊎◌, ◌<◌, ◌≤◌, ℕ, List, length, take, codes, Option, None, Vec, Result, Ok, Err, IfSome}
use Rattle.std.specs.Option.{IsSomeAnd}
use Rattle.std.specs.declared.alloc.Global.{Global}
use Rattle.lzk_outside.specs.Outside.{Files}
use Rattle.lzk_cmd_files.specs.declared.ending.Ending.{Ending}
use Rattle.lzk_cmd_files.specs.declared.ending.Halt.{Halt}
use Rattle.lzk_cmd_files.specs.declared.ending.Halt.TheVariants as halts
use Rattle.lzk_cmd_files.specs.declared.load.LoadFault.{LoadFault}
use Rattle.lzk_cmd_files.specs.declared.load.LoadFault.TheVariants.{Missing, TooLarge, Failed, OutOfMemory}
use Rattle.lzk_cmd_files.specs.Ends.{says, missing_file}
use Rattle.lzk_cmd_files.specs.Lines.{reading_line}
use Rattle.lzk_cmd_files.specs.Seen.{Seen, ReadFailed, Missed}
use Rattle.lzk_cmd_files.specs.Walks.{IsEnding}

-- where the system's random bytes are
abbrev pub random_name : List ℕ
random_name = codes "/dev/urandom"

-- the seed is the file's first 32 bytes, where that is told
pub record IsSeed (old : Seen) (seed : List ℕ) : Type 0 where
  pub size : length seed ≡ 32
  pub told : IfSome old.files (λ files. IsSomeAnd (files random_name)
      (λ bytes. (32 ≤ length bytes) × (seed ≡ take 32 bytes)))

-- the run ends at the file: its read failed, or it is missing, or it has fewer bytes
abbrev pub SeedEnds : Seen → Seen → Ending → Type 0
SeedEnds old new e =
    (ReadFailed old new × IsEnding (says 4 (reading_line random_name)) e)
    ⊎ ((Missed old new × IfSome old.files (λ files. files random_name ≡ None) × IsEnding (missing_file random_name) e)
    ⊎ (IfSome old.files (λ files. IsSomeAnd (files random_name) (λ bytes. length bytes < 32))
    × IsEnding (says 4 (reading_line random_name)) e))

-- a seed, or such an end, or there is no memory
abbrev pub GivesSeed : Seen → Seen → Result (List ℕ) Halt → Type 0
GivesSeed old new (Ok seed) = IsSeed old seed
GivesSeed old new (Err halts.Memory) = Unit {0}
GivesSeed old new (Err (halts.End e)) = SeedEnds old new e

-- ---- reading

-- at least the file's first 32 bytes, or all that it has
abbrev pub IsLongFront : List ℕ → List ℕ → Type 0
IsLongFront all bytes =
    (bytes ≡ take (length bytes) all) × (length bytes ≤ length all)
    × (length bytes < 32 → length all ≡ length bytes)

abbrev pub LoadsFrontOf : Option (List ℕ) → Result (Vec ℕ Global) LoadFault → Type 0
LoadsFrontOf file (Ok v) = IsSomeAnd file (λ all. IsLongFront all v.items)
LoadsFrontOf file (Err Missing) = file ≡ None
LoadsFrontOf file (Err TooLarge) = Unit {0}
LoadsFrontOf file (Err Failed) = Unit {0}
LoadsFrontOf file (Err OutOfMemory) = Unit {0}

abbrev pub LoadsFront : Option Files → List ℕ → Result (Vec ℕ Global) LoadFault → Type 0
LoadsFront held name result = IfSome held (λ files. LoadsFrontOf (files name) result)
