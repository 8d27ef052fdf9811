use Rattle.std.proofs.Common.{◌≡◌, take, min, ◌^◌, ◌-◌}
use Rattle.lzk_level.specs.Bounds.{total, greatest, at_parts}
use Rattle.lzk_level.proofs.measure.parts_sizes.Given as goal

abbrev pub invariant-loop-i : goal.invariant-loop-i
invariant-loop-i g l = record {
  depth : l.depth ≡ greatest 1 (at_parts l.depths (take l.i l.parts));
  weight : l.weight ≡ min (2 ^ 64 - 1) (total (at_parts l.weights (take l.i l.parts)));
}
