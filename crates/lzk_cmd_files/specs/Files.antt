-- Reading a whole file.
use Rattle.std.specs.Prelude.{◌≡◌, ℕ, ◌<◌, ◌≤◌, List, [], length, take, Option, Some, None, Vec, Result, Ok, Err, IfSome}
use Rattle.std.specs.Option.{IsSomeAnd}
use Rattle.std.specs.declared.alloc.Global.{Global}
use Rattle.lzk_outside.specs.Outside.{Files}
use Rattle.lzk_cmd_files.specs.declared.load.LoadFault.{LoadFault}
use Rattle.lzk_cmd_files.specs.declared.load.LoadFault.TheVariants.{Missing, TooLarge, Failed, OutOfMemory}

-- what loading a file of this kind answers
abbrev pub LoadsFile : Option (List ℕ) → ℕ → Result (Vec ℕ Global) LoadFault → Type 0
LoadsFile file limit (Ok v) = (file ≡ Some v.items) × (length v.items ≤ limit)
LoadsFile file limit (Err Missing) = file ≡ None
LoadsFile file limit (Err TooLarge) = IsSomeAnd file (λ bytes. limit < length bytes)
LoadsFile file limit (Err Failed) = Unit {0}
LoadsFile file limit (Err OutOfMemory) = Unit {0}

abbrev pub Loads : Option Files → List ℕ → ℕ → Result (Vec ℕ Global) LoadFault → Type 0
Loads held name limit result = IfSome held (λ files. LoadsFile (files name) limit result)

-- what has been read so far of a file of this kind
abbrev pub IsFront : Option (List ℕ) → List ℕ → Type 0
IsFront None bytes = bytes ≡ []
IsFront (Some all) bytes = (bytes ≡ take (length bytes) all) × (length bytes ≤ length all)
