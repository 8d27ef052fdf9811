-- How a run ends, by what was seen of the shelf before and after it. Where a shelf tells its files, `HasBytes` and
-- `Holds` speak of them; one of the system's tells none, and the same words say what its reads and puts answered.
use Rattle.std.specs.Prelude.{◌≡◌, ◌⊎◌, ℕ, List, Result, Ok, Err}
use Rattle.lzk_cmd_files.specs.declared.ending.Ending.{Ending}
use Rattle.lzk_cmd_files.specs.declared.ending.Halt.{Halt}
use Rattle.lzk_cmd_files.specs.declared.ending.Halt.TheVariants as halts
use Rattle.lzk_cmd_files.specs.Ends.{End}
use Rattle.lzk_cmd_files.specs.Formats.{Format}
use Rattle.lzk_cmd_files.specs.Seen.{Seen}
use Rattle.lzk_cmd_files.specs.Walks.{IsEnding, HasBytes, FileEnds, Puts}

-- how a run may end, between two sights of its shelf
abbrev pub Way : Type 1
Way = Seen → Seen → Ending → Type 0

-- it ends so, and no file is put
abbrev pub Says : End → Way
Says end old new e = IsEnding end e × (new.files ≡ old.files)

-- it ends at a file that is not read, and no file is put
abbrev pub Unread : ℕ → List ℕ → Way
Unread limit name old new e = FileEnds old new name limit e × (new.files ≡ old.files)

-- It has the bytes of a file: it ends at their first fault, or goes on with what they mean.
abbrev pub Behind : {X F : Type 0} → Format X F → List ℕ → List ℕ → (X → Way) → Way
Behind {X} {F} format name bytes next old new e =
    ((fault : F) × format.breaks bytes fault × Says (format.refused name fault) old new e)
    ⊎ ((x : X) × format.means bytes x × next x old new e)

-- It reads a file: it ends there, or has its bytes.
abbrev pub Reads : {X F : Type 0} → Format X F → List ℕ → (X → Way) → Way
Reads format name next old new e =
    Unread format.limit name old new e
    ⊎ ((bytes : List ℕ) × HasBytes old name format.limit bytes × Behind format name bytes next old new e)

-- it puts a file and says this text, or the put fails
abbrev pub PutsFile : List ℕ → List ℕ → List ℕ → Way
PutsFile name bytes text old new e = Puts name bytes text old new (Ok e)

-- it ends in one of these ways, or for want of memory with this
abbrev pub Settles : Way → (Seen → Seen → Type 0) → Seen → Seen → Result Ending Halt → Type 0
Settles way wants old new (Ok e) = way old new e
Settles way wants old new (Err halts.Memory) = wants old new
Settles way wants old new (Err (halts.End e)) = way old new e

-- no file is put
abbrev pub NothingPut : Seen → Seen → Type 0
NothingPut old new = new.files ≡ old.files
