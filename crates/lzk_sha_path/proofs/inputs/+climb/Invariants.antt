use Rattle.std.proofs.Common.{length}
use Rattle.lzk_sha_path.proofs.inputs.+climb.Given as goal

abbrev pub decreases-climb : goal.decreases-climb
decreases-climb l = length l.others.now
