use Rattle.lzk_cmd_files.specs.Seen.{seen}
use Rattle.lzk_credential_run.specs.Holding.{purpose_of}
use Rattle.lzk_policy_texts.specs.Paths.{placed_of}
use Rattle.lzk_credential_run.proofs.HoldingEnds.{inputs_serve, no_inputs, provable}
use Rattle.lzk_credential_run.proofs.holding.show_values.Goals as goal

pub serve-requires-after_bounds : goal.serve-requires-after_bounds
serve-requires-after_bounds g c = λ κs within. provable c.args.policy.now c.args.bytes.now c.args.values.now (placed_of c.args.showing.now.path.now) c.in_ok-inputs.inputs c.in_ok-inputs.ensures

pub returns-in_err-inputs : goal.returns-in_err-inputs
returns-in_err-inputs g c =
    no_inputs c.args.showing.now.name.now (placed_of c.args.showing.now.path.now) (purpose_of c.args.showing.now.purpose) c.args.policy.now c.args.bytes.now c.args.values.now (seen g.S.Shelf c.args.shelf.now) c.in_err-inputs.field-0.0 _ c.in_err-inputs.ensures c.from_residual.ensures.1

pub returns : goal.returns
returns g c =
    inputs_serve c.args.showing.now.name.now (placed_of c.args.showing.now.path.now) (purpose_of c.args.showing.now.purpose) c.args.policy.now c.args.bytes.now c.args.values.now c.in_ok-inputs.inputs (seen g.S.Shelf c.args.shelf.now) (seen g.S.Shelf c.serve.new.shelf) c.serve.result c.in_ok-inputs.ensures c.serve.ensures
