use Rattle.std.proofs.Common.{◌≡◌, ℕ, ◌<◌}
use Rattle.lzk_field.specs.Sums.{entry}
use Rattle.lzk_ligero_tableau.proofs.values.clear.Given as goal

abbrev pub invariant-loop-k : goal.invariant-loop-k
invariant-loop-k g l = let o = g.F.Field.ops in (j : ℕ) → j < l.k → entry o l.list j ≡ o.zero
