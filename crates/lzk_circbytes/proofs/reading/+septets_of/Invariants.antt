use Rattle.lzk_circbytes.proofs.reading.+septets_of.Given as goal

abbrev pub decreases-septets_of : goal.decreases-septets_of
decreases-septets_of l = l.k
