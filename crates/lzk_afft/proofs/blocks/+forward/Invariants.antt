use Rattle.lzk_afft.proofs.blocks.+forward.Given as goal

abbrev pub decreases-forward : goal.decreases-forward
decreases-forward g l = l.bits
