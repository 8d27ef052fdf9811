use Rattle.std.proofs.Common.{◌≡◌, ◌⊎◌, ℕ, true}
use Rattle.lzk_circuit_reduce.specs.Marks.{is_marked}
use Rattle.lzk_circuit_reduce.specs.Reduced.{IsNamed}
use Rattle.lzk_circuit_reduce.proofs.marks.mark_named.Given as goal

abbrev pub invariant-loop-i : goal.invariant-loop-i
invariant-loop-i g l = (k : ℕ) → is_marked l.marks k ≡ true → (is_marked l.initial.marks k ≡ true) ⊎ IsNamed l.terms k
