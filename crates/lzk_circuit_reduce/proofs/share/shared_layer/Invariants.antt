use Rattle.std.proofs.Common.{◌≤◌}
use Rattle.lzk_circuit_reduce.proofs.SharedWireLaws.{Sharing}
use Rattle.lzk_circuit_reduce.proofs.share.shared_layer.Given as goal

abbrev pub invariant-loop-g : goal.invariant-loop-g
invariant-loop-g g l = record { shared : Sharing g.F.Field.ops g.F.Field.coding.number l.layer l.below l.g l.start l.kept l.wires.items; room : l.layer.wires ≤ l.wires.cap }
