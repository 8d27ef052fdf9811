use Rattle.std.proofs.Common.{◌≡◌, drop}
use Rattle.lzk_circuit.specs.Sums.{sum_list}
use Rattle.lzk_accept.specs.Bound.{counts_at}
use Rattle.lzk_residual.proofs.bound.sum_at.Given as goal

abbrev pub invariant-loop-i : goal.invariant-loop-i
invariant-loop-i g l =
    let o = g.F.Field.ops in
    let s = l.layer in
    let f = counts_at o s.alpha s.beta l.first l.second s.ra s.rb in
    o.plus l.sum (sum_list o (drop l.i l.terms) f) ≡ sum_list o l.terms f
