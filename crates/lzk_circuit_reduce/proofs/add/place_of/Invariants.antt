use Rattle.std.proofs.Common.{◌≤◌, ◌<◌, length, slice_index_or}
use Rattle.lzk_circuit.specs.declared.layer.Term.{Term}
use Rattle.lzk_circuit_reduce.specs.Rows.{Less}
use Rattle.lzk_circuit_reduce.proofs.add.place_of.Given as goal

abbrev pub invariant-loop-place : goal.invariant-loop-place
invariant-loop-place g l = (l.place ≤ length l.row) × ((t : Term _) → l.place < length l.row → Less (slice_index_or l.row l.place t) l.term → ⊥)

abbrev pub decreases-loop-place : goal.decreases-loop-place
decreases-loop-place g l = l.place
