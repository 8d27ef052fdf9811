use Rattle.std.proofs.Common.{w32, slice_index}
use Rattle.lzk_sha_lanes.proofs.ChMaj.{ch_short}
use Rattle.lzk_sha_lanes.proofs.Side.{lane_fits}
use Rattle.lzk_sha_lanes.proofs.words.ch.Goals as goal

pub returns : goal.returns
returns c j h =
    rw (c.xor-2.ensures j h, c.and.ensures j h, c.xor.ensures j h)
    (ch_short w32 (slice_index c.args.x j) (slice_index c.args.y j) (slice_index c.args.z j)
    (lane_fits c.args.x c.fits-x.0 c.fits-x.1 j h) (lane_fits c.args.y c.fits-y.0 c.fits-y.1 j h) (lane_fits c.args.z c.fits-z.0 c.fits-z.1 j h))
