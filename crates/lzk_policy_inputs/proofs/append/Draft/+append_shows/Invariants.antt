use Rattle.std.proofs.Common.{length}
use Rattle.lzk_policy_inputs.proofs.append.Draft.+append_shows.Given as goal

abbrev pub decreases-append_shows : goal.decreases-append_shows
decreases-append_shows l = length l.shows.now
