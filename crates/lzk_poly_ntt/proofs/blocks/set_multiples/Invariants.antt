use Rattle.std.proofs.Common.{◌≡◌, ℕ, ◌<◌}
use Rattle.lzk_field.specs.Sums.{entry}
use Rattle.lzk_poly_ntt.proofs.blocks.set_multiples.Given as goal

abbrev pub invariant-loop-j : goal.invariant-loop-j
invariant-loop-j g l = let o = g.F.Field.ops in (k : ℕ) → k < l.j → entry o l.out k ≡ o.times (entry o l.list k) (entry o l.factors k)
