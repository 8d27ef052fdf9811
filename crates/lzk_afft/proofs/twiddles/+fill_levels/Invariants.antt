use Rattle.std.specs.Prelude.{◌-◌}
use Rattle.lzk_afft.proofs.twiddles.+fill_levels.Given as goal

abbrev pub decreases-fill_levels : goal.decreases-fill_levels
decreases-fill_levels g l = l.depth - l.from
