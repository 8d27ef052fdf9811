use Rattle.std.proofs.Common.{◌==◌, drop}
use Rattle.lzk_expr.specs.View.{part_list, expr_list}
use Rattle.lzk_source.specs.TreeSteps.{sum_steps, sum_rest, product_steps, product_rest}
use Rattle.lzk_source.proofs.AddedLaws.{AddsUpTo}
use Rattle.lzk_source.proofs.tree_code.+push_tree.Given as goal

abbrev pub invariant-push_parts-loop-i : goal.invariant-push_parts-loop-i
invariant-push_parts-loop-i l = AddsUpTo (sum_steps (part_list l.parts)) (sum_rest (l.i == 0) (part_list (drop l.i l.parts))) l.fn.code l.code

abbrev pub invariant-push_factors-loop-i : goal.invariant-push_factors-loop-i
invariant-push_factors-loop-i l = AddsUpTo (product_steps (expr_list l.factors)) (product_rest (l.i == 0) (expr_list (drop l.i l.factors))) l.fn.code l.code
