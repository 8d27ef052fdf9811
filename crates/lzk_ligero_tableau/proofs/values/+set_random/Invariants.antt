use Rattle.std.proofs.Common.{length}
use Rattle.lzk_ligero_tableau.proofs.values.+set_random.Given as goal

abbrev pub decreases-set_random : goal.decreases-set_random
decreases-set_random g l = length l.out.now
