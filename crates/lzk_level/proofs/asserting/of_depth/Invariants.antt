use Rattle.std.proofs.Common.{◌≡◌, take}
use Rattle.lzk_level.specs.Checking.{of_depth}
use Rattle.lzk_level.proofs.asserting.of_depth.Given as goal

abbrev pub invariant-loop-i : goal.invariant-loop-i
invariant-loop-i l = l.found.items ≡ of_depth l.depths l.depth (take l.i l.nodes)
