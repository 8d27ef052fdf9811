use Rattle.std.proofs.Common.{◌≡◌, ◌||◌, ℕ, drop}
use Rattle.lzk_circuit_reduce.specs.Marks.{is_marked}
use Rattle.lzk_circuit_reduce.specs.Targets.{is_in}
use Rattle.lzk_circuit_reduce.proofs.targets.mark_each.Given as goal

abbrev pub invariant-loop-i : goal.invariant-loop-i
invariant-loop-i l = (k : ℕ) → (is_marked l.marks k || is_in (drop l.i l.wires) k) ≡ (is_marked l.initial.marks k || is_in l.wires k)
