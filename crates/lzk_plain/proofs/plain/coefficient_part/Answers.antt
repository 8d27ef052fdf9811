use Rattle.std.proofs.Common.{◌+◌, length, drop, ap, ◌∙◌, sym, ◌∷◌, subst, arith}
use Rattle.std.specs.Prelude.{None, true, false}
use Rattle.std.proofs.lemmas.List.{drop_more, drop_all}
use Rattle.lzk_field.proofs.RingBasics.{zero_plus}
use Rattle.lzk_circuit.specs.Sums.{sum_list}
use Rattle.lzk_circuit.specs.Wires.{AreDistinct}
use Rattle.lzk_circuit.proofs.OrderLaws.{placed-distinct}
use Rattle.lzk_sumcheck.specs.Points.{point}
use Rattle.lzk_sumcheck.specs.Rounds.{every_other}
use Rattle.lzk_sumcheck.proofs.PointLaws.{term_value, terms-sum, terms_drop, list-step}
use Rattle.lzk_plain.proofs.plain.coefficient_part.Goals as goal

pub loop-i-init : goal.loop-i-init
loop-i-init g c =
    let m = g.F.Field in
    let o = m.ops in
    let x = point o c.args.on.now.bits c.args.on.now.bound.now c.args.on.now.t c.args.on.now.z in
    let s = sum_list o c.args.terms.now (term_value o m.laws.ring c.args.beta c.args.weights.now (every_other true x) (every_other false x)) in
    ap (λ y. o.plus y s) c.zero-total.ensures ∙ zero_plus o m.laws.ring s

pub offset_bounds-terms-i : goal.offset_bounds-terms-i
offset_bounds-terms-i g c = omega (arith, c.loop-i-test.true)

pub bounds-terms-i : goal.bounds-terms-i
bounds-terms-i g c = c.loop-i-test.true

pub term_part-requires-after_bounds : goal.term_part-requires-after_bounds
term_part-requires-after_bounds g c = λ κs within.
    let o = g.F.Field.ops in
    let ts = c.args.terms.now in
    let i = c.loop-i.i in
    let t = c.index-terms-i.result in
    let front = drop_more ts i t c.loop-i-test.true ∙ ap (λ x. x ∷ drop (i + 1) ts) (sym c.index-terms-i.is) in
    let h = subst (AreDistinct o (length c.args.weights.now) c.args.width) front (terms_drop o (length c.args.weights.now) c.args.width i ts (placed-distinct o (length c.args.weights.now) c.args.width None ts c.requires)) in
    h.0

pub loop-i-preserved : goal.loop-i-preserved
loop-i-preserved g c =
    let m = g.F.Field in
    let o = m.ops in
    let ts = c.args.terms.now in
    let i = c.loop-i.i in
    let t = c.index-terms-i.result in
    let x = point o c.args.on.now.bits c.args.on.now.bound.now c.args.on.now.t c.args.on.now.z in
    let f = term_value o m.laws.ring c.args.beta c.args.weights.now (every_other true x) (every_other false x) in
    let front = drop_more ts i t c.loop-i-test.true ∙ ap (λ x. x ∷ drop (i + 1) ts) (sym c.index-terms-i.is) in
    list-step o m.laws.ring ts (drop (i + 1) ts) t i f c.loop-i.total c.add-total.result c.term_part.result (sum_list o ts f) front c.term_part.ensures
    c.add-total.ensures c.loop-i.invariant

pub returns : goal.returns
returns g c =
    let m = g.F.Field in
    let o = m.ops in
    let ts = c.args.terms.now in
    let x = point o c.args.on.now.bits c.args.on.now.bound.now c.args.on.now.t c.args.on.now.z in
    let f = term_value o m.laws.ring c.args.beta c.args.weights.now (every_other true x) (every_other false x) in
    sym (m.laws.ring.plus_zero c.loop-i.total)
    ∙ sym (ap (λ xs. o.plus c.loop-i.total (sum_list o xs f)) (drop_all c.loop-i.i ts c.loop-i-test.false))
    ∙ c.loop-i.invariant
    ∙ terms-sum o m.laws.ring ts c.args.beta c.args.weights.now (every_other true x) (every_other false x) c.args.width c.requires
