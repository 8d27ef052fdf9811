use Rattle.std.proofs.Common.{sym, ◌∙◌, arith}
use Rattle.lzk_field.proofs.Numbering.{points_apart}
use Rattle.lzk_accept.proofs.PointLaws.{inverse_is, others_first, others_second, others_third}
use Rattle.lzk_accept.proofs.points.ThreePoints.new.Goals as goal

pub apart-requires-clause-second : goal.apart-requires-clause-second
apart-requires-clause-second g c κs within = λ e.
    points_apart g.F.Field.laws 3 (omega arith) 0 2 (omega arith) (omega arith) (sym c.point-x0.ensures ∙ e ∙ c.point-x2.ensures)

pub apart-requires-2-clause-second : goal.apart-requires-2-clause-second
apart-requires-2-clause-second g c κs within = λ e.
    points_apart g.F.Field.laws 3 (omega arith) 1 2 (omega arith) (omega arith) (sym c.point-x1.ensures ∙ e ∙ c.point-x2.ensures)

pub apart-requires-3-clause-first : goal.apart-requires-3-clause-first
apart-requires-3-clause-first g c κs within = λ e.
    points_apart g.F.Field.laws 3 (omega arith) 0 2 (omega arith) (omega arith) (sym c.point-x0.ensures ∙ sym e ∙ c.point-x2.ensures)

pub apart-requires-3-clause-second : goal.apart-requires-3-clause-second
apart-requires-3-clause-second g c κs within = λ e.
    points_apart g.F.Field.laws 3 (omega arith) 1 2 (omega arith) (omega arith) (sym c.point-x1.ensures ∙ sym e ∙ c.point-x2.ensures)

pub invariant_of-result : goal.invariant_of-result
invariant_of-result g c =
    let f = g.F.Field in
    let o = f.ops in
    let r = f.laws.ring in
    let p = f.coding.element in
    let e0 = c.point-x0.ensures in
    let e1 = c.point-x1.ensures in
    let e2 = c.point-x2.ensures in
    record {
      are = record {
        first = inverse_is o r p 0 c.apart.result c.point-x0.result c.point-x1.result c.point-x2.result (p 1) (p 2) (p 0) c.apart.ensures e0 e1 e2 (others_first o r p (p 0));
        second = inverse_is o r p 1 c.apart-2.result c.point-x1.result c.point-x0.result c.point-x2.result (p 0) (p 2) (p 1) c.apart-2.ensures e1 e0 e2 (others_second o r p (p 1));
        third = inverse_is o r p 2 c.apart-3.result c.point-x2.result c.point-x0.result c.point-x1.result (p 0) (p 1) (p 2) c.apart-3.ensures e2 e0 e1 (others_third o r p (p 2));
      };
    }
