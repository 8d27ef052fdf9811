use Rattle.std.proofs.Common.{◌≡◌, ℕ, ◌<◌, ◌≤◌, ◌==◌, length}
use Rattle.lzk_circuit_reduce.specs.Marks.{is_marked}
use Rattle.lzk_circuit_reduce.proofs.marks.first_marked.Given as goal

abbrev pub invariant-loop-k : goal.invariant-loop-k
invariant-loop-k l = (length l.marks.items ≡ l.k) × ((j : ℕ) → j < l.k → is_marked l.marks.items j ≡ (j == 0)) × (l.width ≤ l.marks.cap)
