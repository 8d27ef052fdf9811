use Rattle.std.proofs.Common.{◌+◌, refl}
use Rattle.lzk_sha_path.proofs.Seen.{row_more}
use Rattle.lzk_policy_inputs.proofs.root_places.push_row.Goals as goal

pub loop-k-preserved : goal.loop-k-preserved
loop-k-preserved c =
    row_more c.args.start c.loop-k.k c.args.places.now.items c.loop-k.places.items c.push.new.self.items (c.args.start + c.loop-k.k) c.loop-k.invariant c.in_ok-push.ensures.items refl
