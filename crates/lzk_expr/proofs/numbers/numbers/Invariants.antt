use Rattle.std.proofs.Common.{map}
use Rattle.lzk_expr.proofs.Taking.{Left, left_size}
use Rattle.lzk_expr.proofs.numbers.numbers.Given as goal

abbrev pub invariant-loop-left : goal.invariant-loop-left
invariant-loop-left g l = Left g.F.Field.coding.size l.count l.line l.text.bytes.now l.left (map g.F.Field.coding.number l.found.items)

abbrev pub decreases-loop-left : goal.decreases-loop-left
decreases-loop-left g l = left_size l.left
