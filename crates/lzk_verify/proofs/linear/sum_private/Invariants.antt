use Rattle.std.proofs.Common.{◌≡◌}
use Rattle.lzk_field.specs.Sums.{sum_below}
use Rattle.lzk_verify.specs.Extending.{row_sum}
use Rattle.lzk_verify.proofs.linear.sum_private.Given as goal

abbrev pub invariant-loop-k : goal.invariant-loop-k
invariant-loop-k g l =
    let o = g.F.Field.ops in
    l.sum ≡ sum_below o l.k (λ k. o.times (row_sum o l.row_factors l.elements k) (row_sum o l.place_factors l.factors k))
