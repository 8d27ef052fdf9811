use Rattle.lzk_poly_ntt.proofs.halves.+forward.Given as goal

abbrev pub decreases-forward : goal.decreases-forward
decreases-forward g l = l.bits
