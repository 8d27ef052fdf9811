use Rattle.std.proofs.Common.{◌≡◌, ℕ, ◌<◌, ◌≤◌}
use Rattle.lzk_field.specs.Sums.{entry, minus}
use Rattle.lzk_poly_ntt.proofs.butterflies.backward_butterflies.Given as goal

abbrev pub invariant-loop-i : goal.invariant-loop-i
invariant-loop-i g l =
    let o = g.F.Field.ops in record {
      sums : (i : ℕ) → i < l.i → entry o l.low i ≡ o.plus (entry o l.fn.low i) (o.times (entry o l.fn.high i) (entry o l.twiddles i));
      differences : (i : ℕ) → i < l.i → entry o l.high i ≡ minus o (entry o l.fn.low i) (o.times (entry o l.fn.high i) (entry o l.twiddles i));
      rest_low : (i : ℕ) → l.i ≤ i → entry o l.low i ≡ entry o l.fn.low i;
      rest_high : (i : ℕ) → l.i ≤ i → entry o l.high i ≡ entry o l.fn.high i;
    }
