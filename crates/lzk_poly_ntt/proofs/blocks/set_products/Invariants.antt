use Rattle.std.proofs.Common.{◌≡◌, ℕ, ◌+◌, ◌-◌, ◌<◌, ◌≤◌}
use Rattle.lzk_field.specs.Sums.{entry}
use Rattle.lzk_poly_ntt.proofs.blocks.set_products.Given as goal

abbrev pub invariant-loop-k : goal.invariant-loop-k
invariant-loop-k g l =
    let o = g.F.Field.ops in record {
      inside : (j : ℕ) → l.at ≤ j → j < l.k → entry o l.out j ≡ o.times (entry o l.list (l.first + (j - l.at))) (entry o l.factors j);
      before : (j : ℕ) → j < l.at → entry o l.out j ≡ entry o l.fn.out j;
    }
