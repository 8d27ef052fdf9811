use Rattle.std.proofs.Common.{length}
use Rattle.lzk_policy_texts.proofs.values.+is_asked.Given as goal

abbrev pub decreases-is_asked : goal.decreases-is_asked
decreases-is_asked l = length l.shows.now
