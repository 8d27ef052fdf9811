-- What a report has, for each verdict and refusal.
use Rattle.std.specs.Prelude.{ℕ, Result, Ok, Err, replicate}
use Rattle.std.specs.Int.{w128, to_le_bytes}
use Rattle.lzk_calls.specs.declared.report.Report.{Report}
use Rattle.lzk_calls.specs.declared.refusal.Refusal.{Refusal}
use Rattle.lzk_calls.specs.declared.refusal.Refusal.TheVariants.{NoCircuit, TooLong, NoPublics}
use Rattle.lzk_circbytes.specs.Kinds as circuits
use Rattle.lzk_expr.specs.Kinds as numbers
use Rattle.lzk_layout.specs.declared.fault.ProofKind.{ProofKind}
use Rattle.lzk_layout.specs.declared.fault.ProofKind.TheVariants as proofs
use Rattle.lzk_verify.specs.declared.verdict.Verdict.{Verdict}
use Rattle.lzk_verify.specs.declared.verdict.Verdict.TheVariants.{Accepted, Format, CircuitId, PathCount, Root, LowDegree, LinearSum, Linear, Quadratic}

-- an answer alone
abbrev pub told : ℕ → Report
told answer = record {
  answer = answer;
  check = 0;
  kind = 0;
  line = 0;
  offset = 0;
  column = 0;
  found_count = 0;
  needed_count = 0;
  found_digest = replicate 32 0;
  found_sum = replicate 16 0;
  wanted_sum = replicate 16 0;
}

-- rejected, and this check is the first that fails
abbrev pub failed : ℕ → Report
failed check = record (told 1) { check = check }

-- the numbers of rules of proofs, in the order in which they are declared
abbrev pub proof_kind : ProofKind → ℕ
proof_kind proofs.Truncated = 1
proof_kind proofs.Magic = 2
proof_kind proofs.Element = 3
proof_kind proofs.PathLimit = 4
proof_kind proofs.Trailing = 5

abbrev pub verdict_report : Verdict ℕ → Report
verdict_report Accepted = told 0
verdict_report (Format fault) = record (failed 1) { kind = proof_kind fault.kind; offset = fault.offset }
verdict_report (CircuitId found) = record (failed 2) { found_digest = found }
verdict_report (PathCount found needed) = record (failed 3) { found_count = found; needed_count = needed }
verdict_report (Root found) = record (failed 4) { found_digest = found }
verdict_report (LowDegree column) = record (failed 5) { column = column }
verdict_report (LinearSum found wanted) =
    record (failed 6) { found_sum = to_le_bytes w128 found; wanted_sum = to_le_bytes w128 wanted }
verdict_report (Linear column) = record (failed 7) { column = column }
verdict_report (Quadratic column) = record (failed 8) { column = column }

-- a proof is refused for its circuit, its session or its text, or for want of memory
abbrev pub refusal_report : Refusal → Report
refusal_report TooLong = told 2
refusal_report (NoCircuit fault) = record (told 3) { kind = circuits.rule_number fault.kind; offset = fault.offset }
refusal_report (NoPublics fault) = record (told 4) { kind = numbers.rule_number fault.kind; line = fault.line }
refusal_report other = told 6

abbrev pub report_of : Result (Verdict ℕ) Refusal → Report
report_of (Ok verdict) = verdict_report verdict
report_of (Err refusal) = refusal_report refusal
