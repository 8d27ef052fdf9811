use Rattle.std.proofs.Common.{length}
use Rattle.lzk_policy_circuit.proofs.counts.+owns_of.Given as goal

abbrev pub decreases-owns_of : goal.decreases-owns_of
decreases-owns_of l = length l.shows.now
