use Rattle.std.proofs.Common.{arith}
use Rattle.lzk_layout.proofs.SizeLaws.{bounded}
use Rattle.lzk_layout.proofs.params.Params.of.Goals as goal

pub returns-clause-bounds : goal.returns-clause-bounds
returns-clause-bounds g c =
    let counts = c.counts_of-nsum.ensures in
    rw (c.div_ceil-nwrow.ensures, c.div_ceil-ntriple.ensures, c.row_width_of-wr.ensures.width)
    (bounded c.counts_of-nsum.result.1 c.counts_of-nsum.result.0 c.depth-layers.result counts.few_committed counts.few_sent (omega (arith, c.depth-layers.ensures.depth, c.depth-layers.ensures.valid.some)) (omega (arith, c.depth-layers.ensures.depth, c.depth-layers.ensures.valid.depth)))
