use Rattle.std.proofs.Common.{length}
use Rattle.lzk_policy_texts.proofs.seals.+is_any_sealed.Given as goal

abbrev pub decreases-is_any_sealed : goal.decreases-is_any_sealed
decreases-is_any_sealed l = length l.shows.now
