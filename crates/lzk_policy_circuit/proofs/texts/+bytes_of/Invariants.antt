use Rattle.lzk_policy_circuit.proofs.texts.+bytes_of.Given as goal

abbrev pub decreases-bytes_of : goal.decreases-bytes_of
decreases-bytes_of l = l.size
