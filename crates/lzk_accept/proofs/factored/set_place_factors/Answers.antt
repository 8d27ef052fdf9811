use Rattle.std.proofs.Common.{◌+◌, ◌-◌, cond, nat_lt, length, arith}
use Rattle.std.proofs.lemmas.List.{length-set}
use Rattle.lzk_field.specs.Sums.{entry}
use Rattle.lzk_accept.proofs.FactorLaws.{two_set}
use Rattle.lzk_accept.proofs.factored.set_place_factors.Goals as goal

pub loop-s-init : goal.loop-s-init
loop-s-init g c = record { here = λ k h. absurd (omega (arith, h)); next = λ k h. absurd (omega (arith, h)) }

pub bounds-factors-s : goal.bounds-factors-s
bounds-factors-s g c = omega (arith, c.loop-s-test.true, c.requires.room, c.loop-s.auto.factors)

pub bounds-factors-width : goal.bounds-factors-width
bounds-factors-width g c = omega (arith, c.loop-s-test.true, c.requires.room, c.loop-s.auto.factors, length-set c.loop-s.factors c.loop-s.s c.entry_at.result)

pub loop-s-preserved : goal.loop-s-preserved
loop-s-preserved g c =
    let o = g.F.Field.ops in
    let table = c.args.table.now in
    let low = c.args.low in
    let n = length table in
    two_set o (λ k. entry o table (low + k)) (λ k. cond (nat_lt (low + k) n) o.zero (entry o table (low + k - n))) n c.loop-s.factors c.loop-s.s c.entry_at.result c.behind_zeros.result
    c.loop-s-test.true (omega (arith, c.loop-s-test.true, c.requires.room, c.loop-s.auto.factors)) c.loop-s.invariant c.entry_at.ensures c.behind_zeros.ensures

pub returns-clause-here : goal.returns-clause-here
returns-clause-here g c k h = c.loop-s.invariant.here k (omega (arith, h, c.loop-s-test.false))

pub returns-clause-next : goal.returns-clause-next
returns-clause-next g c k h = c.loop-s.invariant.next k (omega (arith, h, c.loop-s-test.false))
