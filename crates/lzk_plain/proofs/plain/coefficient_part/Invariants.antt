use Rattle.std.proofs.Common.{◌≡◌, drop}
use Rattle.std.specs.Prelude.{true, false}
use Rattle.lzk_circuit.specs.Sums.{sum_list}
use Rattle.lzk_sumcheck.specs.Points.{point}
use Rattle.lzk_sumcheck.specs.Rounds.{every_other}
use Rattle.lzk_sumcheck.proofs.PointLaws.{term_value}
use Rattle.lzk_plain.proofs.plain.coefficient_part.Given as goal

abbrev pub invariant-loop-i : goal.invariant-loop-i
invariant-loop-i g l =
    let o = g.F.Field.ops in
    let x = point o l.on.bits l.on.bound.now l.on.t l.on.z in
    let f = term_value o g.F.Field.laws.ring l.beta l.weights (every_other true x) (every_other false x) in
    o.plus l.total (sum_list o (drop l.i l.terms) f) ≡ sum_list o l.terms f
