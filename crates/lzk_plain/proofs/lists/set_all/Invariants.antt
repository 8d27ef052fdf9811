use Rattle.std.proofs.Common.{◌≡◌, ℕ, ◌<◌}
use Rattle.lzk_field.specs.Sums.{entry}
use Rattle.lzk_plain.proofs.lists.set_all.Given as goal

abbrev pub invariant-loop-i : goal.invariant-loop-i
invariant-loop-i g l = (k : ℕ) → k < l.i → entry g.F.Field.ops l.out k ≡ l.value
