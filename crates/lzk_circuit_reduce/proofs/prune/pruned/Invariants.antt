use Rattle.lzk_circuit_reduce.specs.Used.{ArePrunedTo}
use Rattle.lzk_circuit_reduce.proofs.prune.pruned.Given as goal

abbrev pub invariant-loop-l : goal.invariant-loop-l
invariant-loop-l g l = ArePrunedTo g.F.Field.ops l.given.inputs l.given.targets.now l.given.layers.now l.above.marks.items l.l l.moved.items l.kept.items
