use Rattle.std.proofs.Common.{◌+◌, ◌<◌, ap, ◌∙◌, arith}
use Rattle.std.proofs.lemmas.List.{length-set}
use Rattle.lzk_field.specs.Sums.{entry}
use Rattle.lzk_accept.proofs.FactorLaws.{two_set}
use Rattle.lzk_accept.proofs.factored.set_row_factors.Goals as goal

pub loop-i-init : goal.loop-i-init
loop-i-init g c = record { here = λ k h. absurd (omega (arith, h)); next = λ k h. absurd (omega (arith, h)) }

pub bounds-factors-i : goal.bounds-factors-i
bounds-factors-i g c = omega (arith, c.loop-i-test.true, c.requires.room, c.loop-i.auto.factors)

pub bounds-factors-rows : goal.bounds-factors-rows
bounds-factors-rows g c = omega (arith, c.loop-i-test.true, c.requires.room, c.loop-i.auto.factors, length-set c.loop-i.factors c.loop-i.i c.mul.result)

pub loop-i-preserved : goal.loop-i-preserved
loop-i-preserved g c =
    let o = g.F.Field.ops in
    let a = c.args in
    let table = a.table.now in
    let i = c.loop-i.i in
    let inside : i < a.rows = c.loop-i-test.true in
    two_set o (λ k. o.times a.by (entry o table (a.high + k))) (λ k. o.times a.by (entry o table (a.high + k + 1))) a.rows c.loop-i.factors i c.mul.result c.mul-in-loop-i.result
    inside (omega (arith, inside, c.requires.room, c.loop-i.auto.factors)) c.loop-i.invariant
    (c.mul.ensures ∙ ap (o.times a.by) c.entry_at.ensures) (c.mul-in-loop-i.ensures ∙ ap (o.times a.by) c.entry_at-in-loop-i.ensures)

pub returns-clause-here : goal.returns-clause-here
returns-clause-here g c k h = c.loop-i.invariant.here k (omega (arith, h, c.loop-i-test.false, c.loop-i.auto.i-end))

pub returns-clause-next : goal.returns-clause-next
returns-clause-next g c k h = c.loop-i.invariant.next k (omega (arith, h, c.loop-i-test.false, c.loop-i.auto.i-end))
