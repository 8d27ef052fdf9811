use Rattle.lzk_poly_ntt.proofs.halves.+backward.Given as goal

abbrev pub decreases-backward : goal.decreases-backward
decreases-backward g l = l.bits
