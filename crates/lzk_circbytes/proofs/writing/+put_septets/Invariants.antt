use Rattle.lzk_circbytes.proofs.writing.+put_septets.Given as goal

abbrev pub decreases-put_septets : goal.decreases-put_septets
decreases-put_septets l = l.k
