-- What `run` promises, by what was seen before it and what stands after it.
use Rattle.std.specs.Prelude.{◌≡◌, ◌⊎◌, ◌≤◌, IsTrue, None}
use Rattle.lzk_cmd.specs.Complete.{Completes}
use Rattle.lzk_cmd.specs.Outcome.{WhereTold, Outcome, Refused}
use Rattle.lzk_cmd_files.specs.Seen.{ReadFailed, PutFailed, WriteFailed}
use Rattle.lzk_cmd.specs.Sights.{Before, After}
use Rattle.lzk_cmd_words.specs.Words.{PutsFile, command_of}

pub record Promise (before : Before) (after : After) : Type 0 where
  -- where shelf and sink tell, the run is the definition's; where the files are ready and nothing failed, it is done,
  -- and its file is put
  pub told : WhereTold before (Outcome before after)
  pub complete : WhereTold before (Completes before after)
  -- each status has its cause, whether or not they tell
  pub status : after.status ≤ 6
  pub words : after.status ≡ 2 → command_of before.words ≡ None
  pub refused : command_of before.words ≡ None
      → (after.status ≡ 2) ⊎ (((after.status ≡ 5) × WriteFailed before.sink after.sink) ⊎ (after.status ≡ 6))
  pub missing : after.status ≡ 3 → Refused before after
  pub reading : after.status ≡ 4 → ReadFailed before.shelf after.shelf
  pub printing : after.status ≡ 5
      → WriteFailed before.sink after.sink ⊎ (PutsFile (command_of before.words) × PutFailed before.shelf after.shelf)
  -- where no call of shelf or sink is listed to fail, no fault is counted, and it stays so
  pub shelf_kept : after.shelf.never ≡ before.shelf.never
  pub sink_kept : after.sink.never ≡ before.sink.never
  pub uncounted_reads : IsTrue before.shelf.never → after.shelf.reads ≡ before.shelf.reads
  pub uncounted_puts : IsTrue before.shelf.never → after.shelf.puts ≡ before.shelf.puts
  pub uncounted_writes : IsTrue before.sink.never → after.sink.faults ≡ before.sink.faults
