use Rattle.std.proofs.Common.{refl, sym}
use Rattle.sha2.proofs.Schedule256.{rounds_first}
use Rattle.lzk_sha_lanes.specs.Lanes.{lane}
use Rattle.lzk_sha_lanes.proofs.Side.{slice_index-lane}
use Rattle.lzk_sha_lanes.proofs.rounds.first_step.Goals as goal

pub returns : goal.returns
returns c j lt b h window held =
    rounds_first b h (lane j c.args.w.now) (lane j c.args.v) c.args.place.at _ _ _ c.args.place.high window held refl
    (sym (slice_index-lane j c.args.w.now c.args.place.at)) (c.round.ensures j lt)
