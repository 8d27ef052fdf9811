use Rattle.std.proofs.Common.{◌≡◌, ◌+◌, ◌*◌, refl, ap, ◌∙◌, arith}
use Rattle.std.proofs.lemmas.List.{get_or_default}
use Rattle.lzk_field.specs.Sums.{entry, minus}
use Rattle.lzk_accept.proofs.TableLaws.{lessened_more}
use Rattle.lzk_accept.proofs.tables.lessen_pairs.Goals as goal

pub loop-i-init : goal.loop-i-init
loop-i-init g c = record { length_is = refl; zeros = λ k h. absurd (omega (arith, h)); rest = λ k l q. refl; ones = λ k q. refl }

pub bounds-table-i : goal.bounds-table-i
bounds-table-i g c = omega (arith, c.loop-i-test.true, c.requires, c.loop-i.invariant.length_is)

pub bounds-table-i-in-loop-i : goal.bounds-table-i-in-loop-i
bounds-table-i-in-loop-i g c = omega (arith, c.loop-i-test.true, c.requires, c.loop-i.invariant.length_is)

pub bounds-table-i-in-loop-i-2 : goal.bounds-table-i-in-loop-i-2
bounds-table-i-in-loop-i-2 g c = omega (arith, c.loop-i-test.true, c.requires, c.loop-i.invariant.length_is)

pub loop-i-preserved : goal.loop-i-preserved
loop-i-preserved g c =
    let o = g.F.Field.ops in
    let table = c.loop-i.table in
    let i = c.loop-i.i in
    let x = c.index-table-i.result in
    let y = c.index-table-i-in-loop-i.result in
    let first : x ≡ entry o table (2 * i) = c.index-table-i.is ∙ get_or_default table (2 * i) x o.zero (omega (arith, c.loop-i-test.true, c.requires, c.loop-i.invariant.length_is)) in
    let second : y ≡ entry o table (2 * i + 1) = c.index-table-i-in-loop-i.is ∙ get_or_default table (2 * i + 1) y o.zero (omega (arith, c.loop-i-test.true, c.requires, c.loop-i.invariant.length_is)) in
    lessened_more o c.args.table.now table c.args.size i c.sub.result c.loop-i.invariant c.loop-i-test.true c.requires
    (c.sub.ensures ∙ ap (λ z. minus o z y) first ∙ ap (minus o (entry o table (2 * i))) second)

pub returns-clause-length : goal.returns-clause-length
returns-clause-length g c = c.loop-i.invariant.length_is

pub returns-clause-zeros : goal.returns-clause-zeros
returns-clause-zeros g c k h = c.loop-i.invariant.zeros k (omega (arith, h, c.loop-i-test.false))

pub returns-clause-ones : goal.returns-clause-ones
returns-clause-ones g c = c.loop-i.invariant.ones
