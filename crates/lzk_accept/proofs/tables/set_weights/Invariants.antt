use Rattle.std.proofs.Common.{◌≡◌, ℕ, ◌<◌, length}
use Rattle.lzk_field.specs.Sums.{entry}
use Rattle.lzk_accept.proofs.tables.set_weights.Given as goal

abbrev pub invariant-loop-g : goal.invariant-loop-g
invariant-loop-g g l =
    let o = g.F.Field.ops in
    record {
      length : length l.weights ≡ length l.fn.weights;
      entries : (k : ℕ) → k < l.g → entry o l.weights k ≡ o.plus (entry o l.first k) (o.times l.alpha (entry o l.second k));
    }
