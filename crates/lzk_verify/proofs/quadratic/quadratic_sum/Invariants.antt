use Rattle.std.proofs.Common.{◌≡◌}
use Rattle.lzk_field.specs.Sums.{sum_below, minus, entry}
use Rattle.lzk_verify.specs.Columns.{in_triple}
use Rattle.lzk_verify.proofs.quadratic.quadratic_sum.Given as goal

abbrev pub invariant-loop-i : goal.invariant-loop-i
invariant-loop-i g l =
    let o = g.F.Field.ops in
    l.sum ≡ sum_below o l.i (λ i. o.times (entry o l.v i) (minus o (o.times (in_triple o l.fn.column.plan.now.params l.fn.column.elements.now i 0) (in_triple o l.fn.column.plan.now.params l.fn.column.elements.now i 1)) (in_triple o l.fn.column.plan.now.params l.fn.column.elements.now i 2)))
