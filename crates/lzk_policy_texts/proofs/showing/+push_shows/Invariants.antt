use Rattle.std.proofs.Common.{length}
use Rattle.lzk_policy_texts.proofs.showing.+push_shows.Given as goal

abbrev pub decreases-push_shows : goal.decreases-push_shows
decreases-push_shows l = length l.shows.now
