-- Words, files and stop have an end.
use Rattle.std.specs.Prelude.{◌≡◌, ℕ, ◌<◌, List, Some, slice_index}
use Rattle.lzk_outside.specs.Outside.{Files}
use Rattle.lzk_cmd_files.specs.Ends.{End, Stop}
use Rattle.lzk_cmd.specs.Run.{RunOf}

-- each file is a list of bytes
abbrev pub AreBytes : Files → Type 0
AreBytes files = (name bytes : List ℕ) → files name ≡ Some bytes → (i : ℕ) → slice_index bytes i < 256

abbrev pub SomeEnd : Type 0
SomeEnd =
    (words : List (List ℕ)) (files : Files) (stop : Stop) → AreBytes files → (end : End) × RunOf words files stop end
