use Rattle.std.proofs.Common.{◌+◌}
use Rattle.lzk_field.specs.Sums.{entry}
use Rattle.lzk_accept.proofs.FactorLaws.{AreSetTo}
use Rattle.lzk_accept.proofs.factored.set_row_factors.Given as goal

abbrev pub invariant-loop-i : goal.invariant-loop-i
invariant-loop-i g l =
    let o = g.F.Field.ops in
    AreSetTo o (λ k. o.times l.by (entry o l.table (l.high + k))) (λ k. o.times l.by (entry o l.table (l.high + k + 1))) l.rows l.i l.factors
