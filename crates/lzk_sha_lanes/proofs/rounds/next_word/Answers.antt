use Rattle.std.proofs.Common.{◌≡◌, ◌+◌, ◌%◌, arith, refl}
use Rattle.lzk_sha_lanes.proofs.Side.{slice_index-lane}
use Rattle.lzk_sha_lanes.proofs.rounds.next_word.Goals as goal

pub returns-clause-value : goal.returns-clause-value
returns-clause-value c j h =
    let w = c.args.w.now in
    let at : c.args.place.at % 16 ≡ c.args.place.at = omega arith in
    rw (
      c.add-word.ensures j h,
      c.add-2.ensures j h,
      c.add.ensures j h,
      c.small_sigma1.ensures j h,
      c.small_sigma0.ensures j h,
      at,
      slice_index-lane j w ((c.args.place.at + 14) % 16),
      slice_index-lane j w ((c.args.place.at + 9) % 16),
      slice_index-lane j w ((c.args.place.at + 1) % 16),
      slice_index-lane j w c.args.place.at,
    ) refl
