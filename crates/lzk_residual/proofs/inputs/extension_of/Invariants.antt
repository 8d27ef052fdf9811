use Rattle.std.proofs.Common.{◌≡◌}
use Rattle.lzk_field.specs.Sums.{sum_below, entry}
use Rattle.lzk_mle.specs.Multilinear.{eq}
use Rattle.lzk_residual.proofs.inputs.extension_of.Given as goal

abbrev pub invariant-loop-k : goal.invariant-loop-k
invariant-loop-k g l =
    let o = g.F.Field.ops in
    l.total ≡ sum_below o l.k (λ i. o.times (eq o i l.r) (entry o l.values i))
