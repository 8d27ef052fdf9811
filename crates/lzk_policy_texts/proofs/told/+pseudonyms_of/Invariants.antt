use Rattle.std.proofs.Common.{length}
use Rattle.lzk_policy_texts.proofs.told.+pseudonyms_of.Given as goal

abbrev pub decreases-pseudonyms_of : goal.decreases-pseudonyms_of
decreases-pseudonyms_of l = length l.shows.now
