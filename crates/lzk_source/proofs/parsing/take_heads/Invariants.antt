use Rattle.lzk_expr.specs.Trees.{SourceTree}
use Rattle.lzk_expr.specs.Sources.{SourceText}
use Rattle.lzk_expr.proofs.Taking.{left_size}
use Rattle.lzk_source.proofs.ParseLaws.{HeadsLeft}
use Rattle.lzk_source.proofs.parsing.take_heads.Given as goal

abbrev pub invariant-loop-left : goal.invariant-loop-left
invariant-loop-left l = (source : SourceTree) → SourceText l.text source → HeadsLeft source l.heads.items l.left

abbrev pub decreases-loop-left : goal.decreases-loop-left
decreases-loop-left l = left_size l.left
