use Rattle.lzk_expr.proofs.Taking.{left_size}
use Rattle.lzk_policy.specs.Policies.{partial_of}
use Rattle.lzk_policy.proofs.LinesLeft.{Left}
use Rattle.lzk_policy.proofs.parsing.parse_policy.Given as goal

abbrev pub invariant-loop-left : goal.invariant-loop-left
invariant-loop-left l = Left l.line l.text l.left (partial_of l.draft)

abbrev pub decreases-loop-left : goal.decreases-loop-left
decreases-loop-left l = left_size l.left
