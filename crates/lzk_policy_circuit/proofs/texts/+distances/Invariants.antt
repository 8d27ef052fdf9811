use Rattle.std.proofs.Common.{length}
use Rattle.lzk_policy_circuit.proofs.texts.+distances.Given as goal

abbrev pub decreases-distances : goal.decreases-distances
decreases-distances l = length l.texts.now
