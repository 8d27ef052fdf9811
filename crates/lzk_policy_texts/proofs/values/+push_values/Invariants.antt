use Rattle.std.proofs.Common.{length}
use Rattle.lzk_policy_texts.proofs.values.+push_values.Given as goal

abbrev pub decreases-push_values : goal.decreases-push_values
decreases-push_values l = length l.shows.now
