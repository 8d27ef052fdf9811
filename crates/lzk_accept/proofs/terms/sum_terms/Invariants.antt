use Rattle.std.proofs.Common.{◌≡◌, drop}
use Rattle.lzk_field.specs.Sums.{entry}
use Rattle.lzk_circuit.specs.Sums.{sum_list}
use Rattle.lzk_accept.specs.Walks.{counted, counted_so_far}
use Rattle.lzk_accept.proofs.terms.sum_terms.Given as goal

abbrev pub invariant-loop-i : goal.invariant-loop-i
invariant-loop-i g l =
    let o = g.F.Field.ops in
    o.plus (counted_so_far o l.weighed.weights.now (entry o l.weighed.first.now 0) l.walk) (sum_list o (drop l.i l.weighed.terms.now) (counted o l.beta l.weighed.weights.now l.weighed.first.now l.weighed.second.now)) ≡ sum_list o l.weighed.terms.now (counted o l.beta l.weighed.weights.now l.weighed.first.now l.weighed.second.now)
