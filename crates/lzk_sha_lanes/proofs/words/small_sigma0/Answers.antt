use Rattle.std.proofs.Common.{ℕ, ◌/◌, ◌^◌, ap, slice_index, arith}
use Rattle.std.specs.Prelude.{bit_xor}
use Rattle.lzk_sha_lanes.proofs.Rotations.{rotated_two}
use Rattle.lzk_sha_lanes.proofs.Side.{lane_fits}
use Rattle.lzk_sha_lanes.proofs.words.small_sigma0.Goals as goal

pub returns : goal.returns
returns c j h =
    rw (c.xor-2.ensures j h, c.rotate-2.ensures j h, c.xor.ensures j h, c.rotate.ensures j h, c.shift.ensures j h)
    (ap (λ (y : ℕ). bit_xor y (slice_index c.args.x j / 2 ^ 3))
    (rotated_two 32 (slice_index c.args.x j) 7 11 (omega arith) (lane_fits c.args.x c.fits-x.0 c.fits-x.1 j h)))
