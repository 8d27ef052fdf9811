use Rattle.lzk_cmd_files.specs.Seen.{seen}
use Rattle.lzk_credential_run.specs.Orders.{order_of}
use Rattle.lzk_credential_run.proofs.ProveEnds.{seed_drawn, seed_ended}
use Rattle.lzk_credential_run.proofs.proving.draw_proof.Goals as goal

pub returns-in_err-seed : goal.returns-in_err-seed
returns-in_err-seed g c =
    seed_ended (order_of c.args.task.now.order) c.args.policy.now c.args.inputs.now (seen g.S.Shelf c.args.shelf.now) (seen g.S.Shelf c.read_seed.new.shelf) c.in_err-seed.field-0.0 _ c.in_err-seed.ensures.reads c.in_err-seed.ensures.gives c.from_residual.ensures.1

pub returns : goal.returns
returns g c =
    seed_drawn (order_of c.args.task.now.order) c.args.policy.now c.args.inputs.now (seen g.S.Shelf c.args.shelf.now) (seen g.S.Shelf c.read_seed.new.shelf) (seen g.S.Shelf c.put_proof.new.shelf) c.in_ok-seed.seed c.put_proof.result c.in_ok-seed.ensures.reads c.in_ok-seed.ensures.gives c.put_proof.ensures
