use Rattle.lzk_circuit_reduce.proofs.AllUsedLaws.{AreUsedTo}
use Rattle.lzk_circuit_reduce.proofs.prune.are_used.Given as goal

abbrev pub invariant-loop-l : goal.invariant-loop-l
invariant-loop-l g l = AreUsedTo l.l l.given.targets.now l.given.layers.now
