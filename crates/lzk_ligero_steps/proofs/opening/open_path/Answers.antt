use Rattle.lzk_profile.specs.Profile.{opened_count, most_digests}
use Rattle.std.proofs.Common.{◌/◌, arith}
use Rattle.lzk_ligero_steps.proofs.opening.open_path.Goals as goal

pub clear_path-requires : goal.clear_path-requires
clear_path-requires c = let few = c.needed.ensures.few (most_digests / opened_count) (omega (arith, c.args.opened.now.few)) in omega (arith, few, c.args.opened.now.count, c.requires)

pub write_path-requires-clause-room : goal.write_path-requires-clause-room
write_path-requires-clause-room c =
    let few = c.needed.ensures.few (most_digests / opened_count) (omega (arith, c.args.opened.now.few)) in
    omega (arith, few, c.args.opened.now.count, c.requires, c.clear_path.ensures.count, c.clear_path.ensures.room)

pub returns-clause-few : goal.returns-clause-few
returns-clause-few c =
    let few = c.needed.ensures.few (most_digests / opened_count) (omega (arith, c.args.opened.now.few)) in
    omega (arith, few, c.args.opened.now.count, c.clear_path.ensures.count, c.write_path.ensures.count)
