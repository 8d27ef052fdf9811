use Rattle.lzk_circuit_beside.proofs.LayerLaws.{Adding}
use Rattle.lzk_circuit_beside.proofs.layer.add_layer.Given as goal

abbrev pub invariant-loop-g : goal.invariant-loop-g
invariant-loop-g g l = Adding g.F.Field.ops l.layer l.numbers l.start l.fn.terms.items l.g l.at l.terms.items
