use Rattle.std.proofs.Common.{◌≡◌, take, min, ◌^◌, ◌-◌, ◌+◌}
use Rattle.lzk_level.specs.Bounds.{total}
use Rattle.lzk_level.proofs.measure.add_all.Given as goal

abbrev pub invariant-loop-i : goal.invariant-loop-i
invariant-loop-i l = l.sum ≡ min (2 ^ 64 - 1) (l.start + total (take l.i l.weights))
