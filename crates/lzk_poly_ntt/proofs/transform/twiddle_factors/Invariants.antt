use Rattle.std.proofs.Common.{◌≡◌, ℕ, ◌+◌, ◌*◌, ◌<◌, ◌≤◌, length}
use Rattle.lzk_field.specs.Sums.{entry, power}
use Rattle.lzk_poly_ntt.proofs.transform.twiddle_factors.Given as goal

abbrev pub invariant-loop-i : goal.invariant-loop-i
invariant-loop-i g l =
    let o = g.F.Field.ops in record {
      size : length l.list.items ≡ l.half + l.half;
      next : l.power ≡ power o l.root l.i;
      top : (k : ℕ) → k < l.i → entry o l.list.items (l.half + k) ≡ power o l.root k;
    }

abbrev pub invariant-loop-k : goal.invariant-loop-k
invariant-loop-k g l =
    let o = g.F.Field.ops in record {
      size : length l.list.items ≡ l.half + l.half;
      top : (k : ℕ) → k < l.half → entry o l.list.items (l.half + k) ≡ power o l.fn.root k;
      below : (k : ℕ) → 1 ≤ k → l.k ≤ k → k < l.half → entry o l.list.items k ≡ entry o l.list.items (2 * k);
    }
