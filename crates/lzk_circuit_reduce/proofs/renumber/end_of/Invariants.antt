use Rattle.std.proofs.Common.{ℕ, ◌+◌, ◌-◌, ◌≤◌, None, length}
use Rattle.lzk_circuit.specs.Valid.{AreTerms}
use Rattle.lzk_circuit_reduce.specs.Renumbering.{terms_before}
use Rattle.lzk_circuit_reduce.proofs.renumber.end_of.Given as goal

abbrev pub invariant-loop-end : goal.invariant-loop-end
invariant-loop-end g l = (l.start ≤ l.end) × (l.end ≤ length l.terms) × ((wires width : ℕ) → AreTerms g.F.Field.ops wires width None l.terms → l.end ≤ terms_before (l.g + 1) l.terms)

abbrev pub decreases-loop-end : goal.decreases-loop-end
decreases-loop-end g l = length l.terms - l.end
