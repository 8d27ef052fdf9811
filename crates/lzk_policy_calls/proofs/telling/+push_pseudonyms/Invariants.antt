use Rattle.std.proofs.Common.{length}
use Rattle.lzk_policy_calls.proofs.telling.+push_pseudonyms.Given as goal

abbrev pub decreases-push_pseudonyms : goal.decreases-push_pseudonyms
decreases-push_pseudonyms l = length l.shows.now
