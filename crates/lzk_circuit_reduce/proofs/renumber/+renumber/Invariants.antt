use Rattle.std.proofs.Common.{length}
use Rattle.lzk_circuit_reduce.proofs.renumber.+renumber.Given as goal

abbrev pub decreases-renumber : goal.decreases-renumber
decreases-renumber g l = length l.terms.now
