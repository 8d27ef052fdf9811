-- Formats of files, and the walk at a file of a format.
use Rattle.std.specs.Prelude.{◌≡◌, ◌⊎◌, ℕ, ◌≤◌, List, length, Option, Some}
use Rattle.lzk_outside.specs.Outside.{Files}
use Rattle.lzk_cmd_files.specs.Ends.{End, Stop, AtFile}

-- how large a file may be, what its bytes mean, what their first fault is, and how a run ends that is refused for it
pub record Format (X F : Type 0) : Type 1 where
  pub limit : ℕ
  pub means : List ℕ → X → Type 0
  pub breaks : List ℕ → F → Type 0
  pub refused : List ℕ → F → End

-- The walk has a file's bytes: it goes on with what they mean, or ends at their first fault.
abbrev pub AtBytes : {X F : Type 0} → Format X F → List ℕ → List ℕ → End → (X → Type 0) → Type 0
AtBytes {X} {F} format name bytes end next =
    ((x : X) × format.means bytes x × next x)
    ⊎ ((fault : F) × format.breaks bytes fault × (end ≡ format.refused name fault))

-- The walk at its k-th file, which is of a format: it ends at the file, or goes on with its bytes.
abbrev pub At : {X F : Type 0} → Format X F → Files → Stop → ℕ → List ℕ → End → (X → Type 0) → Type 0
At format files stop k name end next =
    AtFile files stop k name format.limit end (λ bytes. AtBytes format name bytes end next)

-- a file is there within a limit, and has these bytes
pub record HasFile (file : Option (List ℕ)) (limit : ℕ) (bytes : List ℕ) : Type 0 where
  pub there : file ≡ Some bytes
  pub fits : length bytes ≤ limit

-- a file of this format is there within its limit, and means this
pub record Has {X F : Type 0} (format : Format X F) (files : Files) (name : List ℕ) (x : X) : Type 0 where
  pub bytes : List ℕ
  pub file : HasFile (files name) format.limit bytes
  pub means : format.means bytes x
