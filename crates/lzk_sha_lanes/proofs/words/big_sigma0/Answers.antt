use Rattle.std.proofs.Common.{slice_index, arith}
use Rattle.lzk_sha_lanes.proofs.Rotations.{rotated_three}
use Rattle.lzk_sha_lanes.proofs.Side.{lane_fits}
use Rattle.lzk_sha_lanes.proofs.words.big_sigma0.Goals as goal

pub returns : goal.returns
returns c j h =
    rw (c.rotate-3.ensures j h, c.xor-2.ensures j h, c.rotate-2.ensures j h, c.xor.ensures j h, c.rotate.ensures j h)
    (rotated_three 32 (slice_index c.args.x j) 2 11 9 (omega arith) (lane_fits c.args.x c.fits-x.0 c.fits-x.1 j h))
