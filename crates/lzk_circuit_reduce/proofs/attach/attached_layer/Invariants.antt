use Rattle.std.proofs.Common.{◌≡◌, ◌+◌, ◌++◌, take}
use Rattle.lzk_circuit_reduce.specs.Attached.{assertions}
use Rattle.lzk_circuit_reduce.proofs.attach.attached_layer.Given as goal

abbrev pub invariant-loop-i : goal.invariant-loop-i
invariant-loop-i g l = (l.g ≡ l.layer.wires + l.i) × (l.terms.items ≡ l.layer.terms ++ assertions g.F.Field.ops l.layer.wires (take l.i l.wires))
