use Rattle.std.proofs.Common.{length, ap, ◌∙◌}
use Rattle.lzk_sumcheck.proofs.LayerShapes.{terms_is}
use Rattle.lzk_sumcheck_rounds.proofs.rounds.term_count.Goals as goal

pub returns : goal.returns
returns g c = ap length (c.as_slice.ensures ∙ terms_is c.args.circuit.now c.args.l c.layer.result.now c.layer.ensures)
