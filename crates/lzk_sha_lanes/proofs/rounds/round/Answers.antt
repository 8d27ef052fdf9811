use Rattle.std.proofs.Common.{refl}
use Rattle.lzk_sha_lanes.proofs.Side.{slice_index-lane, splat_at}
use Rattle.lzk_sha_lanes.proofs.rounds.round.Goals as goal

pub returns : goal.returns
returns c j h =
    rw (
      c.add-4.ensures j h,
      c.add-5.ensures j h,
      c.add-temp2.ensures j h,
      c.add-temp1.ensures j h,
      c.add-3.ensures j h,
      splat_at c.args.k j h,
      c.add-2.ensures j h,
      c.add.ensures j h,
      c.ch.ensures j h,
      c.maj.ensures j h,
      c.big_sigma0.ensures j h,
      c.big_sigma1.ensures j h,
      slice_index-lane j c.args.v 0,
      slice_index-lane j c.args.v 1,
      slice_index-lane j c.args.v 2,
      slice_index-lane j c.args.v 3,
      slice_index-lane j c.args.v 4,
      slice_index-lane j c.args.v 5,
      slice_index-lane j c.args.v 6,
      slice_index-lane j c.args.v 7,
    ) refl
