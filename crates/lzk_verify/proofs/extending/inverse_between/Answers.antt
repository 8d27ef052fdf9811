use Rattle.std.proofs.Common.{◌-◌, ap, ◌∙◌, sym, arith}
use Rattle.std.proofs.lemmas.List.{get_or_default}
use Rattle.lzk_field.proofs.RingBasics.{same_from_difference}
use Rattle.lzk_field.proofs.Numbering.{points_apart}
use Rattle.lzk_verify.proofs.Extended.{even_inverse}
use Rattle.lzk_verify.proofs.extending.inverse_between.Goals as goal

pub returns-then-is_even : goal.returns-then-is_even
returns-then-is_even g c =
    let f = g.F.Field in
    let o = f.ops in
    let table = c.inverses-inverses.result.now in
    let point = c.args.at.now.point in
    let at = point - c.args.i in
    c.index-inverses-at.is ∙ get_or_default table at c.index-inverses-at.result o.zero (omega arith)
    ∙ even_inverse o f.laws.ring f.laws.field f.coding.element table c.args.i point (λ i j before below. c.is_even.ensures.0 c.if-is_even.true i j before (omega arith)) c.inverses-inverses.ensures.table (omega (arith, c.args.at.now.reached, c.inverses-inverses.ensures.enough)) c.requires.apart

pub inverse_of-requires-clause-nonzero : goal.inverse_of-requires-clause-nonzero
inverse_of-requires-clause-nonzero g c κs within = λ e.
    let f = g.F.Field in
    let o = f.ops in
    let point = c.args.at.now.point in
    let x = f.coding.element point in
    let y = f.coding.element c.args.i in
    points_apart f.laws 65536 (omega arith) c.args.i point c.requires.apart (omega (arith, c.args.at.now.reached, c.args.at.now.limit))
    (sym (same_from_difference o f.laws.ring x y (ap (λ w. o.plus w (o.neg y)) (sym c.point.ensures) ∙ ap (λ w. o.plus c.point.result (o.neg w)) (sym c.point-2.ensures) ∙ sym c.sub.ensures ∙ e)))
