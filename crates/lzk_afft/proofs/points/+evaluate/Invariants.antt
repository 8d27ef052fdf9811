use Rattle.std.specs.Prelude.{length}
use Rattle.lzk_afft.proofs.points.+evaluate.Given as goal

abbrev pub decreases-evaluate : goal.decreases-evaluate
decreases-evaluate g l = length l.out.now
