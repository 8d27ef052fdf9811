use Rattle.std.proofs.Common.{◌≡◌, ◌∙◌, ap, sym, subst, arith, length, None, ◌<◌}
use Rattle.lzk_field.specs.Sums.{entry}
use Rattle.lzk_circuit.specs.Valid.{AreTerms}
use Rattle.lzk_circuit.specs.Wires.{coef, wire}
use Rattle.lzk_circuit_reduce.specs.Rows.{IsRow, row_value}
use Rattle.lzk_circuit_beside.proofs.LayerLaws.{Copying, copying-starts, copying-adds}
use Rattle.lzk_circuit_beside.proofs.layer.copies.Goals as goal

pub loop-g-init : goal.loop-g-init
loop-g-init g c =
    let o = g.F.Field.ops in
    subst (Copying o c.args.count 0) (sym c.in_ok-terms.ensures.items) (copying-starts o c.args.count)

pub loop-g-preserved : goal.loop-g-preserved
loop-g-preserved g c =
    let o = g.F.Field.ops in
    let k = c.loop-g.g in
    let row = c.deref.result.now in
    let is = c.deref.ensures.value in
    let l : k < c.args.count = c.loop-g-test.true in
    let e = c.in_ok-append.ensures in
    copying-adds o g.F.Field.laws.ring c.args.count k c.loop-g.terms.items row c.append.new.terms.items l
    (subst (IsRow o c.args.count) (sym is) (c.in_ok-row.ensures.row c.args.count (omega arith) l))
    (λ below. ap (row_value o below) is ∙ c.in_ok-row.ensures.value below ∙ ap (λ x. o.times x (o.times (entry o below 0) (entry o below k))) c.one.ensures)
    (omega (arith, ap length is, c.in_ok-row.ensures.short))
    e.terms e.before e.added e.count c.loop-g.invariant

pub returns-clause-terms : goal.returns-clause-terms
returns-clause-terms g c =
    let o = g.F.Field.ops in
    let same : c.loop-g.g ≡ c.args.count = omega (arith, c.loop-g-test.false, c.loop-g.auto.g-end) in
    subst (AreTerms o c.args.count c.args.count None) (sym c.new.ensures) (subst (λ k. AreTerms o k c.args.count None c.loop-g.terms.items) same c.loop-g.invariant.terms)

pub returns-clause-values : goal.returns-clause-values
returns-clause-values g c below n e i l =
    let o = g.F.Field.ops in
    ap (λ ts. wire o (coef o ts) below i) c.new.ensures ∙ c.loop-g.invariant.values below n e i (omega (arith, l, c.loop-g-test.false))

pub returns-clause-short : goal.returns-clause-short
returns-clause-short g c = omega (arith, ap length c.new.ensures, c.loop-g.invariant.short, c.loop-g.auto.g-end)
