use Rattle.lzk_expr.proofs.Taking.{left_size}
use Rattle.lzk_policy_texts.specs.Paths.{nothing, partial_of, with_line}
use Rattle.lzk_policy_texts.proofs.EntryLines.{Left}
use Rattle.lzk_policy_texts.proofs.paths.read_lines.Given as goal

abbrev pub invariant-loop-left : goal.invariant-loop-left
invariant-loop-left l = Left with_line nothing l.line l.text l.left (partial_of l.have)

abbrev pub decreases-loop-left : goal.decreases-loop-left
decreases-loop-left l = left_size l.left
