use Rattle.std.proofs.Common.{◌≡◌, ◌∙◌, refl, ap, sym, subst, arith, length, take, drop, map, None, ◌+◌, ◌-◌, ◌++◌}
use Rattle.lzk_circuit.specs.Valid.{AreTerms}
use Rattle.lzk_circuit_reduce.specs.Renumbering.{AreOver, terms_before}
use Rattle.lzk_circuit_reduce.specs.Rows.{IsRow, row_value, placed}
use Rattle.lzk_circuit_reduce.proofs.RenumberLaws.{over-own, terms-over}
use Rattle.lzk_circuit_reduce.proofs.WireLaws.{own-slice, before-most}
use Rattle.lzk_circuit_beside.proofs.LayerLaws.{adding-starts, adding-adds, part-length, row-lone}
use Rattle.lzk_circuit_beside.proofs.layer.add_layer.Goals as goal

pub loop-g-init : goal.loop-g-init
loop-g-init g c = adding-starts g.F.Field.ops c.args.layer.now c.args.numbers.now c.args.start c.args.terms.now.items

pub set_row-requires-clause-terms : goal.set_row-requires-clause-terms
set_row-requires-clause-terms g c κs within =
    let o = g.F.Field.ops in
    let ts = c.args.layer.now.terms in
    let wires = c.args.layer.now.wires in
    let width = length c.args.numbers.now in
    let us = c.as_slice-own.result.now in
    let h = c.requires.terms in
    let end = c.end_of-end.ensures.end wires width (subst (AreTerms o wires width None) (sym c.as_slice-own.ensures) h) in
    subst (AreOver width) (sym (own-slice o wires width c.loop-g.g c.loop-g.at c.end_of-end.result ts us c.as_slice-own.ensures c.loop-g.invariant.place_is end h))
    (over-own width c.loop-g.g ts (terms-over o wires width None ts h))

pub loop-g-preserved : goal.loop-g-preserved
loop-g-preserved g c =
    let o = g.F.Field.ops in
    let ts = c.args.layer.now.terms in
    let wires = c.args.layer.now.wires in
    let numbers = c.args.numbers.now in
    let us = c.as_slice-own.result.now in
    let h = c.requires.terms in
    let k = c.loop-g.g in
    let end = c.end_of-end.ensures.end wires (length numbers) (subst (AreTerms o wires (length numbers) None) (sym c.as_slice-own.ensures) h) in
    let own = own-slice o wires (length numbers) k c.loop-g.at c.end_of-end.result ts us c.as_slice-own.ensures c.loop-g.invariant.place_is end h in
    let row = c.deref.result.now in
    let is = c.deref.ensures.value in
    let e = c.in_ok-append.ensures in
    let found = c.in_ok-set_row.ensures in
    adding-adds o g.F.Field.laws.ring c.args.layer.now numbers c.args.start c.args.terms.now.items k c.loop-g.at c.end_of-end.result c.loop-g.terms.items row c.append.new.terms.items c.loop-g-test.true h
    (end ∙ ap (terms_before (k + 1)) c.as_slice-own.ensures)
    (λ width n. subst (IsRow o width) (sym is) (found.row width n))
    (λ old new copies. ap (row_value o new) is ∙ found.value old new copies ∙ ap (row_value o old) own)
    (part-length us c.loop-g.at c.end_of-end.result row (ap length is) found.short c.end_of-end.ensures.after)
    e.terms e.before e.added e.count (e.exact ∙ ap (λ us. c.loop-g.terms.items ++ map (placed (c.args.start + k)) us) refl)
    (row-lone o g.F.Field.laws.field.one_not_zero ts (take (c.end_of-end.result - c.loop-g.at) (drop c.loop-g.at us)) c.set_row.new.row.items row numbers k own is found.alone) c.loop-g.invariant

pub returns-clause-terms : goal.returns-clause-terms
returns-clause-terms g c width n h =
    let o = g.F.Field.ops in
    let same : c.loop-g.g ≡ c.args.layer.now.wires = omega (arith, c.loop-g-test.false, c.loop-g.auto.g-end) in
    subst (λ k. AreTerms o (c.args.start + k) width None c.loop-g.terms.items) same (c.loop-g.invariant.terms width n h)

pub returns-clause-values : goal.returns-clause-values
returns-clause-values g c old new l n h f i j = c.loop-g.invariant.values old new l n h f i (omega (arith, j, c.loop-g-test.false))

pub returns-clause-short : goal.returns-clause-short
returns-clause-short g c =
    omega (arith, c.loop-g.invariant.short, c.loop-g.invariant.place_is, before-most c.loop-g.g c.args.layer.now.terms)

pub returns-clause-lone : goal.returns-clause-lone
returns-clause-lone g c marks width n h l each = c.loop-g.invariant.lone marks width n h l each
