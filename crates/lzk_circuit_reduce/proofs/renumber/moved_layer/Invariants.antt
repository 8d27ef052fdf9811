use Rattle.lzk_circuit_reduce.proofs.MovedLaws.{Moving}
use Rattle.lzk_circuit_reduce.proofs.renumber.moved_layer.Given as goal

abbrev pub invariant-loop-g : goal.invariant-loop-g
invariant-loop-g g l = Moving g.F.Field.ops l.layer l.numbers l.g l.start l.terms.items
