use Rattle.lzk_sha_path.proofs.words.+number.Given as goal

abbrev pub decreases-number : goal.decreases-number
decreases-number l = l.count
