use Rattle.std.proofs.Common.{◌≡◌, ℕ, ◌<◌, ◌≤◌}
use Rattle.lzk_field.specs.Sums.{entry}
use Rattle.lzk_poly_ntt.proofs.blocks.add_multiples.Given as goal

abbrev pub invariant-loop-j : goal.invariant-loop-j
invariant-loop-j g l =
    let o = g.F.Field.ops in record {
      done : (k : ℕ) → k < l.j → entry o l.out k ≡ o.plus (entry o l.fn.out k) (o.times (entry o l.list k) (entry o l.factors k));
      rest : (k : ℕ) → l.j ≤ k → entry o l.out k ≡ entry o l.fn.out k;
    }
