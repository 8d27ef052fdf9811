use Rattle.std.proofs.Common.{◌≡◌, ℕ, ◌<◌, drop, length}
use Rattle.lzk_field.specs.Sums.{entry}
use Rattle.lzk_circuit.specs.Wires.{coef, wire}
use Rattle.lzk_circuit.specs.Sums.{sum_list}
use Rattle.lzk_circuit.proofs.TermSums.{share}
use Rattle.lzk_circuit.proofs.eval.eval_layer.Given as goal

abbrev pub invariant-loop-i : goal.invariant-loop-i
invariant-loop-i g l =
    let o = g.F.Field.ops in
    (k : ℕ) → k < length l.out →
    o.plus (entry o l.out k) (sum_list o (drop l.i l.terms) (share o g.F.Field.laws.ring l.below k)) ≡ wire o (coef o l.terms) l.below k
