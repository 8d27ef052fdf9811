use Rattle.lzk_afft.proofs.blocks.+backward.Given as goal

abbrev pub decreases-backward : goal.decreases-backward
decreases-backward g l = l.bits
