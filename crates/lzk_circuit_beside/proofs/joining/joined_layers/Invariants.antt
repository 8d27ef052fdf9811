use Rattle.std.proofs.Common.{reverse}
use Rattle.lzk_circuit_beside.proofs.JoinLaws.{Standing}
use Rattle.lzk_circuit_beside.proofs.joining.joined_layers.Given as goal

abbrev pub invariant-loop-l : goal.invariant-loop-l
invariant-loop-l g l = Standing g.F.Field.ops l.first.circuit.now l.second.circuit.now l.first.places.now l.second.places.now l.depth l.l (reverse l.layers.items) l.left.items l.right.items
