use Rattle.std.proofs.Common.{◌≡◌, map, take}
use Rattle.lzk_circuit_reduce.specs.Renumbering.{at}
use Rattle.lzk_circuit_reduce.proofs.targets.add_renumbered.Given as goal

abbrev pub invariant-loop-i : goal.invariant-loop-i
invariant-loop-i l = l.list.items ≡ map (at l.numbers) (take l.i l.wires)
