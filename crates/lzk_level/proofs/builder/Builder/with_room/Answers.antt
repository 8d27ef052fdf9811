use Rattle.std.proofs.Common.{ap}
use Rattle.lzk_level.specs.Nodes.{nodes_from}
use Rattle.lzk_level.proofs.FlatGateLaws.{not-ok}
use Rattle.lzk_level.proofs.builder.Builder.with_room.Goals as goal

pub returns-in_err-gates : goal.returns-in_err-gates
returns-in_err-gates g c = record { inputs = not-ok c.from_residual.result _ _ c.from_residual.ensures.1 }

pub returns : goal.returns
returns g c = record { inputs = ap (nodes_from c.args.publics c.args.privates) c.in_ok-gates.ensures }
