use Rattle.std.proofs.Common.{length}
use Rattle.lzk_policy_circuit.proofs.shows.+assert_shows.Given as goal

abbrev pub decreases-assert_shows : goal.decreases-assert_shows
decreases-assert_shows l = length l.shows.now
