use Rattle.std.proofs.Common.{◌≡◌, ◌++◌, drop, map}
use Rattle.std.specs.Prelude.{string_bytes}
use Rattle.lzk_cmd_circuits.specs.Evaluated.{output_lines}
use Rattle.lzk_cmd_circuits.proofs.evaluating.output_lines.Given as goal

abbrev pub invariant-loop-k : goal.invariant-loop-k
invariant-loop-k g l = string_bytes l.text ++ output_lines l.k (drop l.k (map g.F.Field.coding.number l.values.checks)) ≡ output_lines 0 (map g.F.Field.coding.number l.values.checks)
