use Rattle.std.proofs.Common.{length, ◌-◌, ◌+◌, ◌≤◌}
use Rattle.lzk_circuit_reduce.proofs.MergeLaws.{SoFar}
use Rattle.lzk_circuit_reduce.proofs.rows.merged.Given as goal

abbrev pub invariant-loop-i : goal.invariant-loop-i
invariant-loop-i g l = record { so_far : SoFar g.F.Field.ops l.left l.right l.sum.items l.i l.j; room : length l.left + length l.right ≤ l.sum.cap }

abbrev pub decreases-loop-i : goal.decreases-loop-i
decreases-loop-i g l = (length l.left - l.i) + (length l.right - l.j)
