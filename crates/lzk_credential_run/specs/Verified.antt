-- What `verify` does.
use Rattle.std.specs.Prelude.{◌≡◌, ◌⊎◌, ℕ, List, Result, Ok, Err}
use Rattle.lzk_goldilocks.specs.Elements.{number}
use Rattle.lzk_goldilocks.specs.declared.element.Gold.{Gold}
use Rattle.lzk_verify.specs.declared.verdict.Verdict.{Verdict}
use Rattle.lzk_cmd_files.specs.declared.ending.Ending.{Ending}
use Rattle.lzk_cmd_files.specs.declared.ending.Halt.{Halt}
use Rattle.lzk_cmd_files.specs.declared.ending.Halt.TheVariants as halts
use Rattle.lzk_cmd_files.specs.Decoded.{proof_files}
use Rattle.lzk_cmd_files.specs.Ends.{says}
use Rattle.lzk_cmd_files.specs.Formats.{Format}
use Rattle.lzk_cmd_files.specs.Walks.{IsEnding}
use Rattle.lzk_cmd_verify.specs.Verified.{verdict_end}
use Rattle.lzk_policy.specs.Policies.{Contents}
use Rattle.lzk_policy_texts.specs.Circuits.{PassesLimit}
use Rattle.lzk_credential_run.specs.Proofs.{IsPolicyVerdict}
use Rattle.lzk_policy_texts.specs.declared.entries.ValuesFault.{ValuesFault}
use Rattle.lzk_credential_run.specs.Ends.{Way, Reads}
use Rattle.lzk_credential_run.specs.Files.{policy_files}
use Rattle.lzk_credential_run.specs.Lines.{limit_line}
use Rattle.lzk_credential_run.specs.Orders.{Order}
use Rattle.lzk_policy_texts.specs.Told.{publics_of}
use Rattle.lzk_credential_run.specs.Told.{shown_line}

-- what a verifier was shown of a policy, as its public numbers
abbrev pub shown_files : Contents → Format (List Gold) ValuesFault
shown_files p = record {
  limit = 65536;
  means = λ text publics. publics_of p text ≡ Ok publics;
  breaks = λ text fault. publics_of p text ≡ Err fault;
  refused = λ name fault. says 3 (shown_line name p fault);
}

-- the end tells the verdict on a proof for the policy's circuit, or that this would pass a limit
abbrev pub EndsJudged : Order → Contents → List Gold → List ℕ → Ending → Type 0
EndsJudged order p publics bytes e =
    (PassesLimit p × IsEnding (says 3 (limit_line order.policy)) e)
    ⊎ ((verdict : Verdict Gold) × IsPolicyVerdict p order.session publics bytes verdict
    × IsEnding (verdict_end number verdict) e)

-- such an end, or there is no memory
abbrev pub JudgesTo : Order → Contents → List Gold → List ℕ → Result Ending Halt → Type 0
JudgesTo order p publics bytes (Ok e) = EndsJudged order p publics bytes e
JudgesTo order p publics bytes (Err halts.Memory) = Unit {0}
JudgesTo order p publics bytes (Err (halts.End e)) = EndsJudged order p publics bytes e

-- the run has policy, public numbers and a proof
abbrev pub Judges : Order → Contents → List Gold → List ℕ → Way
Judges order p publics bytes old new e = EndsJudged order p publics bytes e × (new.files ≡ old.files)

abbrev pub WithShown : Order → Contents → List Gold → Way
WithShown order p publics = Reads proof_files order.proof (Judges order p publics)

abbrev pub ShownTo : List ℕ → Order → Contents → Way
ShownTo shown order p = Reads (shown_files p) shown (WithShown order p)

abbrev pub VerifyRun : List ℕ → Order → Way
VerifyRun shown order = Reads policy_files order.policy (ShownTo shown order)
