use Rattle.std.proofs.Common.{◌≡◌}
use Rattle.lzk_field.specs.Sums.{entry, sum_below}
use Rattle.lzk_ligero_tableau.proofs.values.sum_of.Given as goal

abbrev pub invariant-loop-i : goal.invariant-loop-i
invariant-loop-i g l = let o = g.F.Field.ops in l.sum ≡ sum_below o l.i (λ i. entry o l.list i)
