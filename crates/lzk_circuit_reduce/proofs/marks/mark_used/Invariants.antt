use Rattle.std.proofs.Common.{◌≡◌, ℕ, ◌||◌, drop}
use Rattle.lzk_circuit_reduce.specs.Marks.{is_marked, names}
use Rattle.lzk_circuit_reduce.proofs.marks.mark_used.Given as goal

abbrev pub invariant-loop-i : goal.invariant-loop-i
invariant-loop-i g l = (k : ℕ) → (is_marked l.below k || names l.marks (drop l.i l.terms) k) ≡ (is_marked l.initial.below k || names l.marks l.terms k)
