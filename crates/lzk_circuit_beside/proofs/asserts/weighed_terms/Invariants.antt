use Rattle.std.proofs.Common.{◌≡◌, take}
use Rattle.lzk_circuit.specs.Wires.{weighed}
use Rattle.lzk_circuit_beside.proofs.asserts.weighed_terms.Given as goal

abbrev pub invariant-loop-i : goal.invariant-loop-i
invariant-loop-i g l = l.all.items ≡ weighed g.F.Field.ops g.F.Field.ops.one (take l.i l.terms)
