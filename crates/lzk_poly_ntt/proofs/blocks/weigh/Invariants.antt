use Rattle.std.proofs.Common.{◌≡◌, ℕ, ◌+◌, ◌<◌, ◌≤◌, length}
use Rattle.lzk_field.specs.Sums.{entry}
use Rattle.lzk_poly_ntt.proofs.blocks.weigh.Given as goal

abbrev pub invariant-loop-h : goal.invariant-loop-h
invariant-loop-h g l = let o = g.F.Field.ops in (j : ℕ) → j < l.h → entry o l.out j ≡ o.zero

abbrev pub invariant-loop-i : goal.invariant-loop-i
invariant-loop-i g l =
    let o = g.F.Field.ops in record {
      before : (j : ℕ) → j < l.skip → entry o l.out j ≡ o.zero;
      near : (j : ℕ) → j < l.i → entry o l.out (l.skip + j) ≡ o.times (entry o l.values j) (entry o l.weights j);
    }

abbrev pub invariant-loop-k : goal.invariant-loop-k
invariant-loop-k g l =
    let o = g.F.Field.ops in record {
      before : (j : ℕ) → j < l.skip → entry o l.out j ≡ o.zero;
      near : (j : ℕ) → j < length l.fn.values → entry o l.out (l.skip + j) ≡ o.times (entry o l.fn.values j) (entry o l.fn.weights j);
      far : (j : ℕ) → l.skip + length l.fn.values ≤ j → j < l.k → entry o l.out j ≡ o.zero;
    }
