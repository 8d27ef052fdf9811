use Rattle.std.proofs.Common.{◌≡◌, ℕ, ◌<◌}
use Rattle.lzk_field.specs.Sums.{entry}
use Rattle.lzk_sumcheck_rounds.proofs.terms.pad_values.Given as goal

abbrev pub invariant-loop-i : goal.invariant-loop-i
invariant-loop-i g l = let o = g.F.Field.ops in (k : ℕ) → k < l.i → entry o l.table k ≡ entry o l.values k
