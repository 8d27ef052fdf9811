use Rattle.std.proofs.Common.{◌+◌, ◌*◌, length}
use Rattle.lzk_batch.proofs.batch.+share_out.Given as goal

abbrev pub decreases-share_out : goal.decreases-share_out
decreases-share_out g l = 2 * length l.passes.now + 1

abbrev pub decreases-front_lists : goal.decreases-front_lists
decreases-front_lists g l = 2 * length l.front.now + 2

abbrev pub decreases-back_lists : goal.decreases-back_lists
decreases-back_lists g l = 2 * length l.back.now + 2
