use Rattle.lzk_policy_circuit.proofs.numbers.+number.Given as goal

abbrev pub decreases-number : goal.decreases-number
decreases-number l = l.size
