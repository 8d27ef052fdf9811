use Rattle.std.proofs.Common.{◌≡◌}
use Rattle.lzk_field.specs.Sums.{sum_below, entry}
use Rattle.lzk_mle.specs.Multilinear.{eq}
use Rattle.lzk_sumcheck.specs.Rounds.{every_other}
use Rattle.lzk_sumcheck.specs.Points.{point}
use Rattle.lzk_plain.proofs.plain.tilde_part.Given as goal

abbrev pub invariant-loop-i : goal.invariant-loop-i
invariant-loop-i g l =
    let o = g.F.Field.ops in
    l.total ≡ sum_below o l.i (λ k. o.times (eq o k (every_other l.a (point o l.on.bits l.on.bound.now l.on.t l.on.z))) (entry o l.values k))
