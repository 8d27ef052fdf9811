-- The statuses of a run.
use Rattle.std.proofs.Common.{◌≤◌, ℕ, List, Option, Some, None, Result, inl, inr, arith}
use Rattle.sha2.specs.Sha256.{sha256}
use Rattle.lzk_cmd_files.specs.declared.ending.Ending.{Ending}
use Rattle.lzk_cmd_files.specs.declared.ending.Halt.{Halt}
use Rattle.lzk_cmd_files.specs.Ends.{says, refused_words}
use Rattle.lzk_cmd_files.specs.Seen.{Seen, SeenSink}
use Rattle.lzk_cmd_files.specs.Walks.{Concludes}
use Rattle.lzk_policy.specs.Policies.{Contents}
use Rattle.lzk_credential_run.specs.Circuits.{CircuitRun, PutsCircuit}
use Rattle.lzk_credential_run.specs.Digests.{DigestOf, DigestRun}
use Rattle.lzk_credential_run.specs.Ends.{Says, NothingPut}
use Rattle.lzk_credential_run.specs.Files.{policy_files, record_files}
use Rattle.lzk_credential_run.specs.Given.{PutsOne}
use Rattle.lzk_credential_run.specs.Holding.{HoldingRun, Put, Prove}
use Rattle.lzk_credential_run.specs.Lines.{digest_line, limit_line, put_line}
use Rattle.lzk_credential_run.specs.Runs.{Works, order_for}
use Rattle.lzk_credential_run.specs.Shown.{ShowRun}
use Rattle.lzk_policy_texts.specs.Shown.{shown_lines}
use Rattle.lzk_credential_run.specs.Verified.{VerifyRun}
use Rattle.lzk_credential_run.specs.Words as words
use Rattle.lzk_credential_run.specs.Words.{Command, Circuit, Digest, Inputs, Show, Verify}
use Rattle.lzk_credential_run.proofs.HoldingEnds.{holding_small}
use Rattle.lzk_credential_run.proofs.VerifyEnds.{verify_small}
use Rattle.lzk_credential_run.proofs.Steps.{IsSmall, says_small, puts_small, reads_small, concluded}

puts_circuit_small : (policy circuit : List ℕ) (p : Contents) → IsSmall (PutsCircuit policy circuit p)
puts_circuit_small policy circuit p old new e (inl (cause, h)) = says_small (says 3 (limit_line policy)) (omega arith) old new e h
puts_circuit_small policy circuit p old new e (inr (bytes, is, h)) = puts_small circuit bytes put_line old new e h

circuit_small : (policy circuit : List ℕ) → IsSmall (CircuitRun policy circuit)
circuit_small policy circuit = reads_small policy_files policy (PutsCircuit policy circuit) (λ fault. omega arith) (puts_circuit_small policy circuit)

digest_of_small : (name : List ℕ) (p : Contents) → IsSmall (DigestOf name p)
digest_of_small name p =
    reads_small (record_files p.size) name (λ m. Says (says 0 (digest_line (sha256 m)))) (λ fault. omega arith) (λ m. says_small (says 0 (digest_line (sha256 m))) (omega arith))

digest_small : (policy name : List ℕ) → IsSmall (DigestRun policy name)
digest_small policy name = reads_small policy_files policy (DigestOf name) (λ fault. omega arith) (digest_of_small name)

show_small : (policy : List ℕ) → IsSmall (ShowRun policy)
show_small policy = reads_small policy_files policy (λ p. Says (says 0 (shown_lines p))) (λ fault. omega arith) (λ p. says_small (says 0 (shown_lines p)) (omega arith))

pub status_small : (command : Option Command) (old new : Seen) (before after : SeenSink) (done : Result Ending Halt) (status : ℕ) → Works command old new done → Concludes before after done status → status ≤ 6
status_small None old new before after done status = concluded (Says refused_words) NothingPut old new before after done status (says_small refused_words (omega arith))
status_small (Some (Circuit policy circuit)) old new before after done status = concluded (CircuitRun policy circuit) NothingPut old new before after done status (circuit_small policy circuit)
status_small (Some (Digest policy name)) old new before after done status = concluded (DigestRun policy name) NothingPut old new before after done status (digest_small policy name)
status_small (Some (Inputs policy holding public private)) old new before after done status =
    concluded (HoldingRun policy holding (Put public private)) (PutsOne public) old new before after done status (holding_small policy holding (Put public private))
status_small (Some (words.Prove policy holding proof session)) old new before after done status =
    let purpose = Prove (order_for policy proof session) in
    concluded (HoldingRun policy holding purpose) NothingPut old new before after done status (holding_small policy holding purpose)
status_small (Some (Verify policy shown proof session)) old new before after done status =
    let order = order_for policy proof session in
    concluded (VerifyRun shown order) NothingPut old new before after done status (verify_small shown order)
status_small (Some (Show policy)) old new before after done status = concluded (ShowRun policy) NothingPut old new before after done status (show_small policy)
