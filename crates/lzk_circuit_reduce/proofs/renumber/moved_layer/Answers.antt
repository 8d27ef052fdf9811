use Rattle.std.proofs.Common.{◌≡◌, ◌∙◌, ap, sym, subst, arith, length}
use Rattle.lzk_circuit_reduce.specs.Rows.{IsRow, row_value}
use Rattle.lzk_circuit_reduce.specs.Shared.{IsMovedLayer}
use Rattle.lzk_circuit_reduce.proofs.MovedLaws.{Moving, moving-starts, moving-adds, moving-ends}
use Rattle.lzk_circuit_reduce.proofs.renumber.moved_layer.Goals as goal

pub loop-g-init : goal.loop-g-init
loop-g-init g c =
    let o = g.F.Field.ops in
    subst (Moving o c.args.layer.now c.args.numbers.now 0 0) (sym c.in-Ok.ensures.items) (moving-starts o c.args.layer.now c.args.numbers.now)

pub wire_row-requires-clause-start : goal.wire_row-requires-clause-start
wire_row-requires-clause-start g c κs within = c.loop-g.invariant.start_is

pub wire_row-requires-clause-terms : goal.wire_row-requires-clause-terms
wire_row-requires-clause-terms g c κs within = c.requires

pub loop-g-preserved : goal.loop-g-preserved
loop-g-preserved g c =
    let o = g.F.Field.ops in
    let row = c.deref.result.now in
    let is = c.deref.ensures.value in
    let found = c.in-Ok-wire_row.ensures in
    let e = c.in-Ok-append.ensures in
    moving-adds o g.F.Field.laws.ring c.args.layer.now c.args.numbers.now c.loop-g.g c.loop-g.start c.in-Ok-wire_row.end c.loop-g.terms.items row c.append.new.terms.items c.loop-g-test.true c.requires
    found.end_is
    (λ width n. subst (IsRow o width) (sym is) (found.is width n))
    (λ old new h. ap (row_value o new) is ∙ found.value old new h)
    (omega (arith, ap length is, found.short))
    e.terms e.before e.added e.count c.loop-g.invariant

pub returns : goal.returns
returns g c =
    let o = g.F.Field.ops in
    let layer = c.args.layer.now in
    let numbers = c.args.numbers.now in
    let terms = c.loop-g.terms.items in
    let end : c.loop-g.g ≡ layer.wires = omega (arith, c.loop-g-test.false, c.loop-g.auto.g-end) in
    let all : Moving o layer numbers layer.wires c.loop-g.start terms = subst (λ k. Moving o layer numbers k c.loop-g.start terms) end c.loop-g.invariant in
    subst (λ ts. IsMovedLayer o layer numbers (record { wires = layer.wires; terms = ts })) (sym c.new.ensures) (moving-ends o layer numbers c.loop-g.start terms all)
