use Rattle.std.proofs.Common.{length}
use Rattle.lzk_policy_inputs.proofs.check.+is_among.Given as goal

abbrev pub decreases-is_among : goal.decreases-is_among
decreases-is_among l = length l.texts.now
