use Rattle.lzk_sha_lanes.proofs.Side.{shifts_each}
use Rattle.lzk_sha_lanes.proofs.words.shift.Goals as goal

pub returns : goal.returns
returns c = shifts_each c.args.k c.args.x c.fits-x.0
