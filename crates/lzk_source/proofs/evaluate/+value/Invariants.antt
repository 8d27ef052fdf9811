use Rattle.std.proofs.Common.{◌≡◌, ◌≤◌, length, drop}
use Rattle.lzk_expr.specs.SourceValues.{parts_value, factors_value, given}
use Rattle.lzk_expr.specs.View.{part_list, expr_list}
use Rattle.lzk_source.proofs.evaluate.+value.Given as goal

abbrev pub invariant-product-loop-i : goal.invariant-product-loop-i
invariant-product-loop-i g l = record {
  within : l.i ≤ length l.factors;
  total : l.total ≡ factors_value (given g.F.Field.ops g.F.Field.coding.element l.public l.private l.lets) (expr_list (drop l.i l.factors));
}

abbrev pub decreases-product-loop-i : goal.decreases-product-loop-i
decreases-product-loop-i g l = l.i

abbrev pub invariant-sum-loop-i : goal.invariant-sum-loop-i
invariant-sum-loop-i g l = record {
  within : l.i ≤ length l.parts;
  total : l.total ≡ parts_value (given g.F.Field.ops g.F.Field.coding.element l.public l.private l.lets) (part_list (drop l.i l.parts));
}

abbrev pub decreases-sum-loop-i : goal.decreases-sum-loop-i
decreases-sum-loop-i g l = l.i
