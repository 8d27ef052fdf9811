use Rattle.std.proofs.Common.{◌≡◌, ◌+◌, drop}
use Rattle.std.specs.Prelude.{count_by}
use Rattle.lzk_expr.specs.Trees.{is_assertion}
use Rattle.lzk_expr.specs.View.{statements_of}
use Rattle.lzk_source.proofs.parsing.assert_count.Given as goal

abbrev pub invariant-loop-i : goal.invariant-loop-i
invariant-loop-i l = l.count + count_by is_assertion (statements_of (drop l.i l.statements)) ≡ count_by is_assertion (statements_of l.statements)
