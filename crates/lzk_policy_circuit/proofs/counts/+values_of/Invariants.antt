use Rattle.std.proofs.Common.{length}
use Rattle.lzk_policy_circuit.proofs.counts.+values_of.Given as goal

abbrev pub decreases-values_of : goal.decreases-values_of
decreases-values_of l = length l.shows.now
