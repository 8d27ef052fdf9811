use Rattle.std.proofs.Common.{length}
use Rattle.lzk_gadgets.proofs.statement.Statement.+distance.Given as goal

abbrev pub decreases-distance : goal.decreases-distance
decreases-distance l = length l.choices.now
