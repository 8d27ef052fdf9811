use Rattle.lzk_circuit_beside.proofs.LayerLaws.{Copying}
use Rattle.lzk_circuit_beside.proofs.layer.copies.Given as goal

abbrev pub invariant-loop-g : goal.invariant-loop-g
invariant-loop-g g l = Copying g.F.Field.ops l.count l.g l.terms.items
