use Rattle.std.specs.Prelude.{length}
use Rattle.lzk_afft.proofs.twiddles.+fill_sums.Given as goal

abbrev pub decreases-fill_sums : goal.decreases-fill_sums
decreases-fill_sums g l = length l.images.now
