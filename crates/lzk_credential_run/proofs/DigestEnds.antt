-- The ends of `digest` behind its policy.
use Rattle.std.proofs.Common.{ℕ, List}
use Rattle.sha2.specs.Sha256.{sha256}
use Rattle.lzk_cmd_files.specs.Ends.{says}
use Rattle.lzk_policy.specs.Policies.{Contents}
use Rattle.lzk_credential_run.specs.Digests.{DigestOf}
use Rattle.lzk_credential_run.specs.Ends.{Says}
use Rattle.lzk_credential_run.specs.Files.{record_files}
use Rattle.lzk_credential_run.specs.Lines.{digest_line}
use Rattle.lzk_credential_run.proofs.Steps.{IsLate, says_later, reads_later}

pub digest_later : (name : List ℕ) (p : Contents) → IsLate (DigestOf name p)
digest_later name p = reads_later (record_files p.size) name (λ m. Says (says 0 (digest_line (sha256 m)))) (λ m. says_later (says 0 (digest_line (sha256 m))))
