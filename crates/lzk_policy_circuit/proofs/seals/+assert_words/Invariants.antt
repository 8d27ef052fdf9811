use Rattle.lzk_policy_circuit.proofs.seals.+assert_words.Given as goal

abbrev pub decreases-assert_words : goal.decreases-assert_words
decreases-assert_words l = l.count
