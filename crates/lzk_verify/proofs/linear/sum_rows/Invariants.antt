use Rattle.std.proofs.Common.{◌≡◌}
use Rattle.lzk_field.specs.Sums.{sum_below, entry}
use Rattle.lzk_verify.specs.Extending.{row_sum}
use Rattle.lzk_verify.proofs.linear.sum_rows.Given as goal

abbrev pub invariant-loop-i : goal.invariant-loop-i
invariant-loop-i g l =
    let o = g.F.Field.ops in
    l.sum ≡ sum_below o l.i (λ i. o.times (entry o l.elements i) (row_sum o l.table l.factors i))
