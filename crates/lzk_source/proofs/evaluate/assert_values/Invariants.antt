use Rattle.std.proofs.Common.{◌≡◌, ◌++◌, drop}
use Rattle.lzk_expr.specs.SourceValues.{assert_values, source_value, given}
use Rattle.lzk_expr.specs.View.{statements_of}
use Rattle.lzk_source.proofs.evaluate.assert_values.Given as goal

abbrev pub invariant-loop-i : goal.invariant-loop-i
invariant-loop-i g l =
    l.found.items ++ assert_values (given g.F.Field.ops g.F.Field.coding.element l.public l.private l.lets.items) (statements_of (drop l.i l.statements))
    ≡ source_value g.F.Field.ops g.F.Field.coding.element l.public l.private (statements_of l.statements)
