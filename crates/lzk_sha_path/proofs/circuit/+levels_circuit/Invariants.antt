use Rattle.lzk_sha_path.proofs.circuit.+levels_circuit.Given as goal

abbrev pub decreases-levels_circuit : goal.decreases-levels_circuit
decreases-levels_circuit l = l.levels.count
