use Rattle.std.proofs.Common.{◌≡◌, ℕ, ◌<◌, ◌≤◌}
use Rattle.lzk_field.specs.Sums.{entry}
use Rattle.lzk_afft.proofs.butterflies.add_entries.Given as goal

abbrev pub invariant-loop-i : goal.invariant-loop-i
invariant-loop-i g l =
    let o = g.F.Field.ops in record {
      before : (i : ℕ) → i < l.from → entry o l.high i ≡ entry o l.fn.high i;
      after : (i : ℕ) → l.from ≤ i → i < l.i → entry o l.high i ≡ o.plus (entry o l.fn.high i) (entry o l.low i);
      rest : (i : ℕ) → l.i ≤ i → entry o l.high i ≡ entry o l.fn.high i;
    }
