use Rattle.std.proofs.Common.{◌≡◌, length, ap, ◌∙◌, arith, sym, add-one}
use Rattle.std.proofs.lemmas.List.{get_or_default}
use Rattle.lzk_field.specs.Sums.{entry, minus}
use Rattle.lzk_field.proofs.RingBasics.{same_from_difference}
use Rattle.lzk_poly.specs.Weights.{part, parts}
use Rattle.lzk_poly.proofs.Blocks.{part_is}
use Rattle.lzk_plain.proofs.extender.Row.sum_at.Goals as goal

pub inverse_of-requires-clause-nonzero : goal.inverse_of-requires-clause-nonzero
inverse_of-requires-clause-nonzero g c κs within =
    let m = g.F.Field in
    let o = m.ops in
    let i = c.loop-i.i in
    λ e. c.requires.apart i (omega arith) (same_from_difference o m.laws.ring c.args.x (m.coding.element i) (ap (λ w. o.plus c.args.x (o.neg w)) (sym c.point.ensures) ∙ sym c.sub-difference.ensures ∙ e))

pub loop-i-preserved : goal.loop-i-preserved
loop-i-preserved g c =
    let m = g.F.Field in
    let o = m.ops in
    let values = c.args.self.now.values.now in
    let i = c.loop-i.i in
    let ws = c.weights-weights.result.now in
    let count = c.args.self.now.weights.now.count in
    let counted : length values ≡ count = c.args.self.now.fits in
    let value : c.index-values-i.result ≡ entry o values i = c.index-values-i.is ∙ get_or_default values i c.index-values-i.result o.zero (omega arith) in
    let weight : c.index-weights-i.result ≡ entry o ws i = c.index-weights-i.is ∙ get_or_default ws i c.index-weights-i.result o.zero (omega (arith, c.weights-weights.ensures.0)) in
    let difference : c.sub-difference.result ≡ minus o c.args.x (m.coding.element i) = c.sub-difference.ensures ∙ ap (λ w. o.plus c.args.x (o.neg w)) c.point.ensures in
    let adds : c.mul.result ≡ part o m.coding.element values i c.args.x =
    c.mul.ensures ∙ part_is o m.laws.ring m.laws.field m.coding.element values ws count i c.args.x _ _ c.mul-scaled.result c.sub-difference.result c.inverse_of.result
    c.weights-weights.ensures counted (omega arith) value weight c.mul-scaled.ensures difference c.inverse_of.ensures in
    rw add-one (c.add-total.ensures ∙ ap (λ w. o.plus w c.mul.result) c.loop-i.invariant ∙ ap (o.plus (parts o m.coding.element values i c.args.x)) adds)
