use Rattle.std.proofs.Common.{length}
use Rattle.lzk_level.proofs.forms.+fill_sum.Given as goal

abbrev pub decreases-fill_sum : goal.decreases-fill_sum
decreases-fill_sum g l = length l.parts.now
