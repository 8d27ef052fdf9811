-- What `show` does: what a verifier learns, line by line.
use Rattle.std.specs.Prelude.{ℕ, List}
use Rattle.lzk_cmd_files.specs.Ends.{says}
use Rattle.lzk_policy_texts.specs.Shown.{shown_lines}
use Rattle.lzk_credential_run.specs.Ends.{Way, Says, Reads}
use Rattle.lzk_credential_run.specs.Files.{policy_files}

abbrev pub ShowRun : List ℕ → Way
ShowRun policy = Reads policy_files policy (λ p. Says (says 0 (shown_lines p)))
