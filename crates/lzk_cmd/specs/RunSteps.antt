-- What a run answers before it prints. No clause of `run` cites these words.
use Rattle.std.specs.Prelude.{◌≡◌, ℕ, List, None, Result, IfSome}
use Rattle.lzk_cmd_files.specs.declared.ending.Ending.{Ending}
use Rattle.lzk_cmd_files.specs.declared.ending.Halt.{Halt}
use Rattle.lzk_cmd_prove.specs.Demo.{TellsDemo}
use Rattle.lzk_cmd_words.specs.Keys.{number_of}
use Rattle.lzk_cmd_words.specs.Digits.{seed_of}
use Rattle.lzk_cmd.specs.Run.{RunOf}
use Rattle.lzk_cmd_files.specs.Seen.{Seen}
use Rattle.lzk_cmd_words.specs.Words.{Command, Demo, ShaCircuit, PutsFile, command_of}
use Rattle.lzk_cmd_files.specs.Walks.{EndsAtPut, Settles}

-- all of a run but the printing
abbrev pub Works : List (List ℕ) → Seen → Seen → Result Ending Halt → Type 0
Works words old new r = Settles (RunOf words) 0 (command_of words ≡ None) (PutsFile (command_of words)) old new r

-- of the words of `demo` and `shacircuit`, which read no file, such an end or that of a put, whether or not the shelf
-- tells its files
abbrev pub OnUnread : Command → Result Ending Halt → Type 0
OnUnread (Demo count seed) r = TellsDemo (number_of count) (seed_of seed) r
OnUnread (ShaCircuit count circuit) r = EndsAtPut r
OnUnread command r = Unit {0}

abbrev pub TellsUnread : List (List ℕ) → Result Ending Halt → Type 0
TellsUnread words r = IfSome (command_of words) (λ command. OnUnread command r)
