use Rattle.std.proofs.Common.{length}
use Rattle.lzk_policy_texts.proofs.told.+push_claims.Given as goal

abbrev pub decreases-push_claims : goal.decreases-push_claims
decreases-push_claims l = length l.shows.now
