use Rattle.std.proofs.Common.{length}
use Rattle.lzk_policy_circuit.proofs.counts.+rests_of.Given as goal

abbrev pub decreases-rests_of : goal.decreases-rests_of
decreases-rests_of l = length l.shows.now
