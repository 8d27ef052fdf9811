use Rattle.std.proofs.Common.{◌≡◌, length}
use Rattle.lzk_field.specs.Sums.{entry}
use Rattle.lzk_sumcheck.proofs.Filled.{IsFilled}
use Rattle.lzk_sumcheck_rounds.proofs.weights.set_weights.Given as goal

abbrev pub invariant-loop-g : goal.invariant-loop-g
invariant-loop-g g l =
    let o = g.F.Field.ops in
    record {
      length : length l.weights ≡ length l.fn.weights;
      filled : IsFilled o.zero (λ k. o.plus (entry o l.first k) (o.times l.alpha (entry o l.second k))) l.g l.weights;
    }
