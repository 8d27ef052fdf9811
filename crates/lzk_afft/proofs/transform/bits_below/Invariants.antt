use Rattle.std.proofs.Common.{ℕ, ◌^◌, ◌<◌}
use Rattle.lzk_afft.proofs.transform.bits_below.Given as goal

abbrev pub invariant-loop-bits : goal.invariant-loop-bits
invariant-loop-bits l = (b : ℕ) → b < l.bits → 2 ^ b < l.end
