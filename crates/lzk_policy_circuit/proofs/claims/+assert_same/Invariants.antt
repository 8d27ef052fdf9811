use Rattle.lzk_policy_circuit.proofs.claims.+assert_same.Given as goal

abbrev pub decreases-assert_same : goal.decreases-assert_same
decreases-assert_same l = l.size
