use Rattle.lzk_expr.specs.Sources.{Before}
use Rattle.lzk_expr.proofs.Taking.{left_size}
use Rattle.lzk_expr.proofs.CodeReading.{CodeLeft}
use Rattle.lzk_expr.proofs.reading.take_lines.Given as goal

abbrev pub invariant-loop-left : goal.invariant-loop-left
invariant-loop-left l = (b : Before) × CodeLeft l.text.bytes.now l.line l.coder b l.left

abbrev pub decreases-loop-left : goal.decreases-loop-left
decreases-loop-left l = left_size l.left
