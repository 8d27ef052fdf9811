use Rattle.std.proofs.Common.{ap, ◌∙◌}
use Rattle.lzk_sumcheck_rounds.proofs.arithmetic.plus_product.Goals as goal

pub returns : goal.returns
returns g c = c.add.ensures ∙ ap (g.F.Field.ops.plus c.args.total) c.mul.ensures
