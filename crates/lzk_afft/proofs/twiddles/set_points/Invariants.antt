use Rattle.std.proofs.Common.{◌≡◌, ℕ, ◌<◌, ◌^◌}
use Rattle.lzk_field.specs.Sums.{entry}
use Rattle.lzk_afft.proofs.twiddles.set_points.Given as goal

abbrev pub invariant-loop-i : goal.invariant-loop-i
invariant-loop-i g l = (i : ℕ) → i < l.i → entry g.F.Field.ops l.images i ≡ g.F.Field.coding.element (2 ^ i)
