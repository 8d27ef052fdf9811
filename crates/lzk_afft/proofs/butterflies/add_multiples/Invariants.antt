use Rattle.std.proofs.Common.{◌≡◌, ℕ, ◌<◌, ◌≤◌}
use Rattle.lzk_field.specs.Sums.{entry}
use Rattle.lzk_afft.proofs.butterflies.add_multiples.Given as goal

abbrev pub invariant-loop-i : goal.invariant-loop-i
invariant-loop-i g l =
    let o = g.F.Field.ops in record {
      before : (i : ℕ) → i < l.from → entry o l.low i ≡ entry o l.fn.low i;
      after : (i : ℕ) → l.from ≤ i → i < l.i → entry o l.low i ≡ o.plus (entry o l.fn.low i) (o.times l.twiddle (entry o l.high i));
      rest : (i : ℕ) → l.i ≤ i → entry o l.low i ≡ entry o l.fn.low i;
    }
