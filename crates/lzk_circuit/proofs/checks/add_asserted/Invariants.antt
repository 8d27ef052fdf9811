use Rattle.std.proofs.Common.{◌≡◌, ℕ, ◌<◌, drop, length}
use Rattle.lzk_field.specs.Sums.{entry}
use Rattle.lzk_circuit.specs.Checks.{asserted}
use Rattle.lzk_circuit.specs.Sums.{sum_list}
use Rattle.lzk_circuit.proofs.AssertLaws.{zeros}
use Rattle.lzk_circuit.proofs.TermSums.{share}
use Rattle.lzk_circuit.proofs.checks.add_asserted.Given as goal

abbrev pub invariant-loop-i : goal.invariant-loop-i
invariant-loop-i g l =
    let o = g.F.Field.ops in
    (k : ℕ) → k < length l.initial.out →
    o.plus (entry o l.out k) (sum_list o (drop l.i (zeros o l.terms)) (share o g.F.Field.laws.ring l.below k)) ≡ o.plus (entry o l.initial.out k) (asserted o l.terms l.below k)
