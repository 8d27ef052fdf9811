use Rattle.std.proofs.Common.{◌≡◌, ℕ, ◌<◌, length}
use Rattle.lzk_field.specs.Sums.{entry}
use Rattle.lzk_sumcheck_rounds.proofs.rows.set_multiples.Given as goal

abbrev pub invariant-loop-i : goal.invariant-loop-i
invariant-loop-i g l = let o = g.F.Field.ops in (length l.rows ≡ length l.fn.rows) × ((k : ℕ) → k < l.i → entry o l.rows k ≡ o.times l.factor (entry o l.list k))
