use Rattle.std.proofs.Common.{◌≡◌, ℕ, ◌<◌, ◌≤◌}
use Rattle.lzk_field.specs.Sums.{entry}
use Rattle.lzk_afft.proofs.butterflies.forward_butterflies.Given as goal

abbrev pub invariant-loop-i : goal.invariant-loop-i
invariant-loop-i g l =
    let o = g.F.Field.ops in record {
      lower : (i : ℕ) → i < l.i → entry o l.low i ≡ o.plus (entry o l.fn.low i) (o.times l.twiddle (entry o l.fn.high i));
      upper : (i : ℕ) → i < l.i → entry o l.high i ≡ o.plus (o.plus (entry o l.fn.low i) (o.times l.twiddle (entry o l.fn.high i))) (entry o l.fn.high i);
      rest_low : (i : ℕ) → l.i ≤ i → entry o l.low i ≡ entry o l.fn.low i;
      rest_high : (i : ℕ) → l.i ≤ i → entry o l.high i ≡ entry o l.fn.high i;
    }
