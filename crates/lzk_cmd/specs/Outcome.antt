-- What a run answers, prints and leaves.
use Rattle.std.specs.Prelude.{◌≡◌, ◌⊎◌, ℕ, List, ◌++◌, take, true, Option, Some, IfSome}
use Rattle.lzk_outside.specs.Outside.{Files}
use Rattle.lzk_cmd_files.specs.Ends.{End, Stop, MayStop, Leaves}
use Rattle.lzk_cmd_files.specs.Refusals.{IsRefusal}
use Rattle.lzk_cmd.specs.Run.{RunOf}
use Rattle.lzk_cmd_files.specs.Seen.{Missed, WriteFailed}
use Rattle.lzk_cmd.specs.Sights.{Before, After}

-- where shelf and sink tell their contents
abbrev pub WhereTold : Before → (Files → List ℕ → Type 0) → Type 0
WhereTold before P = IfSome before.shelf.files (λ files. IfSome before.sink.written (λ text. P files text))

-- The sink has what it had, and then a front of this text.
abbrev pub HasFront : List ℕ → List ℕ → Option (List ℕ) → Type 0
HasFront text printed written = (n : ℕ) × (written ≡ Some (text ++ take n printed))

-- The end as it is; or cut off by the sink; or by want of memory.
abbrev pub Answers : Before → After → List ℕ → End → Type 0
Answers before after text end =
    ((after.status ≡ end.status) × (after.sink.written ≡ Some (text ++ end.text)))
    ⊎ (((after.status ≡ 5) × WriteFailed before.sink after.sink × HasFront text end.text after.sink.written)
    ⊎ ((after.status ≡ 6) × HasFront text end.text after.sink.written))

-- The run ends so, for a stop that may be.
pub record Ends (before : Before) (after : After) (files : Files) (text : List ℕ) : Type 0 where
  pub stop : Stop
  pub end : End
  pub may : MayStop stop before.shelf after.shelf
  pub run : RunOf before.words files stop end
  pub left : Leaves files stop end.put after.shelf.files
  pub missing : end.missing ≡ true → Missed before.shelf after.shelf
  pub answers : Answers before after text end

-- The end of such a run, or for want of memory nothing.
abbrev pub Outcome : Before → After → Files → List ℕ → Type 0
Outcome before after files text =
    Ends before after files text
    ⊎ ((after.status ≡ 6) × (after.shelf.files ≡ Some files) × (after.sink.written ≡ Some text))

-- what was printed is a refusal's line
abbrev pub Refused : Before → After → Type 0
Refused before after =
    IfSome before.sink.written (λ text.
    (line : List ℕ) × IsRefusal (Missed before.shelf after.shelf) line × (after.sink.written ≡ Some (text ++ line)))
