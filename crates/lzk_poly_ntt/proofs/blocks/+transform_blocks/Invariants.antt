use Rattle.std.proofs.Common.{◌-◌}
use Rattle.lzk_poly_ntt.proofs.blocks.+transform_blocks.Given as goal

abbrev pub decreases-transform_blocks : goal.decreases-transform_blocks
decreases-transform_blocks g l = l.row.now.kernels.now.plan.blocks - l.from
