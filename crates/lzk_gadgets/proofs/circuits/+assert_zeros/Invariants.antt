use Rattle.std.proofs.Common.{length}
use Rattle.lzk_gadgets.proofs.circuits.+assert_zeros.Given as goal

abbrev pub decreases-assert_zeros : goal.decreases-assert_zeros
decreases-assert_zeros l = length l.xs.now
