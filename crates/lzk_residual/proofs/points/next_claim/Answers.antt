use Rattle.std.proofs.Common.{◌∙◌, arith}
use Rattle.lzk_field.proofs.Numbering.{points_apart}
use Rattle.lzk_accept.proofs.PointLaws.{next_value}
use Rattle.lzk_residual.proofs.points.next_claim.Goals as goal

pub returns-clause-polynomial : goal.returns-clause-polynomial
returns-clause-polynomial g c = λ cs is.
    let f = g.F.Field in
    let a = c.args in
    c.round_claim.ensures ∙ next_value f.ops f.laws.ring f.coding.element f.laws.field a.claim a.p0 a.p2 a.t cs (points_apart f.laws 3 (omega arith)) is
