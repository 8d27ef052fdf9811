use Rattle.std.proofs.Common.{◌+◌, ◌-◌, cond, nat_lt, length}
use Rattle.lzk_field.specs.Sums.{entry}
use Rattle.lzk_accept.proofs.FactorLaws.{AreSetTo}
use Rattle.lzk_accept.proofs.factored.set_place_factors.Given as goal

abbrev pub invariant-loop-s : goal.invariant-loop-s
invariant-loop-s g l =
    let o = g.F.Field.ops in
    let n = length l.table in
    AreSetTo o (λ k. entry o l.table (l.low + k)) (λ k. cond (nat_lt (l.low + k) n) o.zero (entry o l.table (l.low + k - n))) n l.s l.factors
