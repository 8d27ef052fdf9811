use Rattle.std.proofs.Common.{◌≡◌, ℕ, ◌<◌, ◌≤◌}
use Rattle.lzk_field.specs.Sums.{entry}
use Rattle.lzk_afft.proofs.twiddles.next_images.Given as goal

abbrev pub invariant-loop-i : goal.invariant-loop-i
invariant-loop-i g l =
    let o = g.F.Field.ops in record {
      done : (i : ℕ) → i < l.i → entry o l.images i ≡ o.times (entry o l.fn.images i) (o.plus (entry o l.fn.images i) l.here);
      rest : (i : ℕ) → l.i ≤ i → entry o l.images i ≡ entry o l.fn.images i;
    }
