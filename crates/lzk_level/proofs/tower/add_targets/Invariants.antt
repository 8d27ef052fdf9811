use Rattle.std.proofs.Common.{◌≡◌, map, take}
use Rattle.lzk_circuit_reduce.specs.Renumbering.{at}
use Rattle.lzk_level.specs.Checking.{of_depth}
use Rattle.lzk_level.proofs.tower.add_targets.Given as goal

abbrev pub invariant-loop-i : goal.invariant-loop-i
invariant-loop-i l = l.wires.items ≡ map (at l.numbers) (of_depth l.depths l.level (take l.i l.asserts))
