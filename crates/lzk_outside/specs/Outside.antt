-- What the calls of a shelf and of a sink do. A name is the list of its bytes, as is what a file has.
use Rattle.std.specs.Prelude.{◌≡◌, ◌⊎◌, ℕ, ◌+◌, ◌-◌, ◌^◌, ◌≤◌, min, List, ◌++◌, length, take, drop, Option, Some, None, Result, Ok, Err, IfSome, cond}
use Rattle.std.specs.Option.{option_map, IsSomeAnd}
use Rattle.std.specs.Str.{bytes_eq}
use Rattle.lzk_outside.specs.declared.outside.ShelfFault.{ShelfFault}
use Rattle.lzk_outside.specs.declared.outside.ShelfFault.TheVariants.{Missing, Failed, OutOfMemory}

-- the bytes under each name, where there are any
abbrev pub Files : Type 0
Files = List ℕ → Option (List ℕ)

-- no name is there
abbrev pub no_files : Files
no_files = λ q. None

-- the same with one file set
abbrev pub with_file : Files → List ℕ → List ℕ → Files
with_file files name bytes = λ q. cond (bytes_eq name q) (Some bytes) (files q)

-- the last value of u64, where counts stand still
abbrev pub last_count : ℕ
last_count = 2 ^ 64 - 1

-- one more, up to the last value of u64
abbrev pub counted : ℕ → ℕ
counted n = min (n + 1) last_count

-- a count rose, or stands at the last value of u64; no number beyond that is a count
pub record Rose (before now : ℕ) : Type 0 where
  pub later : before ≤ now
  pub more : counted before ≤ now
  pub count : now ≤ last_count

-- it is a count still and doesn't fall, and where this is so it rose
pub record Counts (this : Type 0) (before now : ℕ) : Type 0 where
  pub later : before ≤ now
  pub count : now ≤ last_count
  pub rose : this → Rose before now

-- the front of buf has the n bytes of a file from a place on, and n is 0 only at the file's end
pub record ReadsFrom (file : List ℕ) (from n : ℕ) (buf : List ℕ) : Type 0 where
  pub bytes : take n buf ≡ take n (drop from file)
  pub fits : n ≤ length file - from
  pub ends : n ≡ 0 → length file ≤ from

-- what a read answers of the file under its name, if there is one: Ok only where it is there, and
-- Missing only where it isn't
abbrev pub ReadsFile : Option (List ℕ) → ℕ → Result ℕ ShelfFault → List ℕ → Type 0
ReadsFile file from (Ok n) buf = IsSomeAnd file (λ bytes. ReadsFrom bytes from n buf)
ReadsFile file from (Err Missing) buf = file ≡ None
ReadsFile file from (Err Failed) buf = Unit {0}
ReadsFile file from (Err OutOfMemory) buf = Unit {0}

-- what a read answers of a shelf, where it tells its files
abbrev pub Reads : Option Files → List ℕ → ℕ → Result ℕ ShelfFault → List ℕ → Type 0
Reads held name from result buf = IfSome held (λ files. ReadsFile (files name) from result buf)

-- new is old with this file set, and tells its files where old does
abbrev pub Holds : Option Files → List ℕ → List ℕ → Option Files → Type 0
Holds old name bytes new = new ≡ option_map (λ files. with_file files name bytes) old

-- new is old, or old with a front of this file set
abbrev pub Torn : Option Files → List ℕ → List ℕ → Option Files → Type 0
Torn old name bytes new = (new ≡ old) ⊎ ((n : ℕ) × Holds old name (take n bytes) new)

-- new is old and then these bytes, and is told where old is
abbrev pub Appends : Option (List ℕ) → List ℕ → Option (List ℕ) → Type 0
Appends old bytes new = new ≡ option_map (λ w. w ++ bytes) old
