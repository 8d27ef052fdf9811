use Rattle.std.proofs.Common.{◌≡◌, take}
use Rattle.lzk_circuit_reduce.specs.Marks.{is_marked}
use Rattle.lzk_circuit_beside.specs.Asserts.{cleared}
use Rattle.lzk_circuit_beside.proofs.asserts.cleared.Given as goal

abbrev pub invariant-loop-i : goal.invariant-loop-i
invariant-loop-i g l = l.all.items ≡ cleared g.F.Field.ops (is_marked l.marks) (take l.i l.terms)
