use Rattle.lzk_poly.proofs.binary.+fill.Given as goal

abbrev pub decreases-fill : goal.decreases-fill
decreases-fill g l = l.bits
