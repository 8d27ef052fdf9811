-- What is written, for each end of a call.
use Rattle.std.specs.Prelude.{ℕ, Result, Ok, Err, replicate}
use Rattle.std.specs.Int.{w128, to_le_bytes}
use Rattle.lzk_calls.specs.declared.outcome.Outcome.{Outcome}
use Rattle.lzk_calls.specs.declared.refusal.Refusal.{Refusal}
use Rattle.lzk_calls.specs.declared.refusal.Refusal.TheVariants.{TooLong, NoCircuit, NoPublics, NoPrivates, NoSource}
use Rattle.lzk_calls.specs.declared.refusal.Refusal.TheVariants.{OutOfMemory, NoRoom, Unsatisfied, OverLimit, NoVersion}
use Rattle.lzk_circbytes.specs.Kinds as circuits
use Rattle.lzk_expr.specs.Kinds as numbers
use Rattle.lzk_expr.specs.declared.source_fault.SourceKind.{SourceKind}
use Rattle.lzk_expr.specs.declared.source_fault.SourceKind.TheVariants as sources
use Rattle.lzk_level.specs.declared.fault.LevelFault.{LevelFault}
use Rattle.lzk_level.specs.declared.fault.LevelFault.TheVariants.{Layers, LayerWires, Terms}

-- an answer alone
abbrev pub told : ℕ → Outcome
told answer = record {
  answer = answer;
  kind = 0;
  line = 0;
  check = 0;
  offset = 0;
  count = 0;
  value = replicate 16 0;
}

-- the numbers of rules of sources, in the order in which they are declared
abbrev pub source_kind : SourceKind → ℕ
source_kind sources.Character = 1
source_kind sources.Syntax = 2
source_kind sources.Keyword = 3
source_kind sources.Unknown = 4
source_kind sources.Twice = 5
source_kind sources.TooLarge = 6
source_kind sources.NoField = 7
source_kind sources.NoAssert = 8
source_kind sources.Limit = 9

abbrev pub limit_outcome : LevelFault → Outcome
limit_outcome (Layers count) = record (told 10) { kind = 1; count = count }
limit_outcome (LayerWires count) = record (told 10) { kind = 2; count = count }
limit_outcome (Terms count) = record (told 10) { kind = 3; count = count }

abbrev pub refusal_outcome : Refusal → Outcome
refusal_outcome TooLong = told 2
refusal_outcome (NoCircuit fault) = record (told 3) { kind = circuits.rule_number fault.kind; offset = fault.offset }
refusal_outcome (NoPublics fault) = record (told 4) { kind = numbers.rule_number fault.kind; line = fault.line }
refusal_outcome (NoSource fault) = record (told 5) { kind = source_kind fault.kind; line = fault.line }
refusal_outcome OutOfMemory = told 6
refusal_outcome (NoRoom count) = record (told 7) { count = count }
refusal_outcome (Unsatisfied check value) = record (told 8) { check = check; value = to_le_bytes w128 value }
refusal_outcome (NoPrivates fault) = record (told 9) { kind = numbers.rule_number fault.kind; line = fault.line }
refusal_outcome (OverLimit fault) = limit_outcome fault
refusal_outcome NoVersion = told 11

abbrev pub outcome_of : Result ℕ Refusal → Outcome
outcome_of (Ok count) = record (told 0) { count = count }
outcome_of (Err refusal) = refusal_outcome refusal
