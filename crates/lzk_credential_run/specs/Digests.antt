-- What `digest` does.
use Rattle.std.specs.Prelude.{ℕ, List}
use Rattle.sha2.specs.Sha256.{sha256}
use Rattle.lzk_cmd_files.specs.Ends.{says}
use Rattle.lzk_policy.specs.Policies.{Contents}
use Rattle.lzk_credential_run.specs.Ends.{Way, Says, Reads}
use Rattle.lzk_credential_run.specs.Files.{policy_files, record_files}
use Rattle.lzk_credential_run.specs.Lines.{digest_line}

-- it reads a record of the policy's size, and tells its digest
abbrev pub DigestOf : List ℕ → Contents → Way
DigestOf name p = Reads (record_files p.size) name (λ m. Says (says 0 (digest_line (sha256 m))))

abbrev pub DigestRun : List ℕ → List ℕ → Way
DigestRun policy name = Reads policy_files policy (DigestOf name)
