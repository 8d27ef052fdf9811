use Rattle.std.proofs.Common.{length}
use Rattle.lzk_policy_inputs.proofs.hashes.+hashes_of.Given as goal

abbrev pub decreases-hashes_of : goal.decreases-hashes_of
decreases-hashes_of l = length l.shows.now
