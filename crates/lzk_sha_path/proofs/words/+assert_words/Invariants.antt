use Rattle.lzk_sha_path.proofs.words.+assert_words.Given as goal

abbrev pub decreases-assert_words : goal.decreases-assert_words
decreases-assert_words l = l.count
