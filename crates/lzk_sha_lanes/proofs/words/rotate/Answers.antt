use Rattle.lzk_sha_lanes.proofs.Side.{shifts_rotate}
use Rattle.lzk_sha_lanes.proofs.words.rotate.Goals as goal

pub returns : goal.returns
returns c = shifts_rotate c.args.k c.requires.some c.requires.most c.args.x c.fits-x.0
