use Rattle.std.proofs.Common.{◌≡◌, ℕ, ◌<◌}
use Rattle.lzk_field.specs.Sums.{entry}
use Rattle.lzk_plain.proofs.binding.fill.Given as goal

abbrev pub invariant-loop-i : goal.invariant-loop-i
invariant-loop-i g l = let o = g.F.Field.ops in (k : ℕ) → k < l.i → entry o l.room k ≡ entry o l.values k
