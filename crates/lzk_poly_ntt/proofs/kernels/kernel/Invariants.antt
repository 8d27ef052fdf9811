use Rattle.std.proofs.Common.{◌≡◌, ℕ, ◌+◌, ◌<◌, length}
use Rattle.lzk_field.specs.Sums.{entry}
use Rattle.lzk_poly_ntt.proofs.kernels.kernel.Given as goal

abbrev pub invariant-loop-t : goal.invariant-loop-t
invariant-loop-t g l =
    let o = g.F.Field.ops in record {
      size : length l.list.items ≡ l.t;
      entries : (i : ℕ) → i < length l.list.items → entry o l.list.items i ≡ o.times l.scale (entry o l.cut.inverses.now (l.first + i));
    }
