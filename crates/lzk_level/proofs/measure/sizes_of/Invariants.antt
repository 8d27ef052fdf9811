use Rattle.std.proofs.Common.{◌≡◌, ℕ, ◌+◌, ◌-◌, ◌^◌, ◌<◌, ◌≤◌, ◌∷◌, length, take, map, min, replicate}
use Rattle.lzk_level.specs.Nodes.{after}
use Rattle.lzk_circuit_reduce.specs.Renumbering.{at}
use Rattle.lzk_level.specs.Bounds.{gate_depth, gate_weight}
use Rattle.lzk_level.proofs.measure.sizes_of.Given as goal

abbrev pub invariant-loop-i : goal.invariant-loop-i
invariant-loop-i g l = record {
  count : length l.depths.items ≡ 1 + l.inputs + l.i;
  many : length l.weights.items ≡ 1 + l.inputs + l.i;
  depths : l.depths.items ≡ after gate_depth (replicate (1 + l.inputs) 0) (take l.i l.made);
  weights : l.weights.items ≡ map (min (2 ^ 64 - 1)) (after gate_weight (0 ∷ replicate l.inputs 1) (take l.i l.made));
  low : (k : ℕ) → k < length l.depths.items → at l.depths.items k < length l.depths.items;
  room : 1 + l.inputs + length l.made ≤ l.depths.cap;
  more_room : 1 + l.inputs + length l.made ≤ l.weights.cap;
}
