use Rattle.std.proofs.Common.{◌≡◌, take, map, min, ◌^◌, ◌-◌}
use Rattle.lzk_circuit_reduce.specs.Renumbering.{at}
use Rattle.lzk_level.specs.Bounds.{total, greatest}
use Rattle.lzk_level.proofs.measure.outputs_sizes.Given as goal

abbrev pub invariant-loop-i : goal.invariant-loop-i
invariant-loop-i l = record {
  depth : l.depth ≡ greatest 1 (map (at l.depths) (take l.i l.outputs));
  weight : l.weight ≡ min (2 ^ 64 - 1) (total (map (at l.weights) (take l.i l.outputs)));
}
