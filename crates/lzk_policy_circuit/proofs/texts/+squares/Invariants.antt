use Rattle.std.proofs.Common.{length}
use Rattle.lzk_policy_circuit.proofs.texts.+squares.Given as goal

abbrev pub decreases-squares : goal.decreases-squares
decreases-squares l = length l.xs.now
