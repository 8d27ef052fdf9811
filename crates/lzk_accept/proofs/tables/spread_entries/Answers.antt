use Rattle.std.proofs.Common.{◌≡◌, ◌+◌, ◌-◌, ◌*◌, refl, ap, ◌∙◌, arith}
use Rattle.std.proofs.lemmas.List.{get_or_default, length-set}
use Rattle.lzk_field.specs.Sums.{entry}
use Rattle.lzk_accept.proofs.TableLaws.{spread_more}
use Rattle.lzk_accept.proofs.tables.spread_entries.Goals as goal

pub loop-i-init : goal.loop-i-init
loop-i-init g c =
    record { length_is = refl; wholes = λ k l q. absurd (omega (arith, l, q)); ones = λ k l q. absurd (omega (arith, l, q)); rest = λ k q. refl }

pub bounds-table-i : goal.bounds-table-i
bounds-table-i g c = omega (arith, c.loop-i-test.true, c.loop-i.auto.i, c.requires, c.loop-i.invariant.length_is)

pub bounds-table-i-in-loop-i : goal.bounds-table-i-in-loop-i
bounds-table-i-in-loop-i g c = omega (arith, c.loop-i-test.true, c.loop-i.auto.i, c.requires, c.loop-i.invariant.length_is)

pub bounds-table-i-in-loop-i-2 : goal.bounds-table-i-in-loop-i-2
bounds-table-i-in-loop-i-2 g c = omega (arith, c.loop-i-test.true, c.loop-i.auto.i, c.requires, c.loop-i.invariant.length_is, length-set c.loop-i.table (2 * (c.loop-i.i - 1) + 1) c.mul.result)

pub returns-clause-length : goal.returns-clause-length
returns-clause-length g c = c.loop-i.invariant.length_is

pub returns-clause-wholes : goal.returns-clause-wholes
returns-clause-wholes g c k h = c.loop-i.invariant.wholes k (omega (arith, c.loop-i-test.false)) h

pub returns-clause-ones : goal.returns-clause-ones
returns-clause-ones g c k h = c.loop-i.invariant.ones k (omega (arith, c.loop-i-test.false)) h

pub loop-i-preserved : goal.loop-i-preserved
loop-i-preserved g c =
    let o = g.F.Field.ops in
    let l = c.loop-i in
    let i = l.i - 1 in
    let whole : c.index-table-i.result ≡ entry o c.args.table.now i = c.index-table-i.is ∙ get_or_default l.table i c.index-table-i.result o.zero (omega (arith, l.invariant.length_is)) ∙ l.invariant.rest i (omega arith) in
    spread_more o c.args.x c.args.table.now l.table c.args.size l.i c.mul.result c.index-table-i.result l.invariant (omega arith) (omega arith) (omega arith)
    (c.mul.ensures ∙ ap (o.times c.args.x) whole) whole
