use Rattle.std.proofs.Common.{take}
use Rattle.lzk_expr.specs.View.{statements_of}
use Rattle.lzk_source.specs.TreeSteps.{HoldsCode}
use Rattle.lzk_source.proofs.tree_code.code_of.Given as goal

abbrev pub invariant-loop-i : goal.invariant-loop-i
invariant-loop-i l = HoldsCode l.code (statements_of (take l.i l.statements))
