use Rattle.std.proofs.Common.{ap, ◌∙◌}
use Rattle.lzk_field.specs.Sums.{minus}
use Rattle.lzk_residual.proofs.PointLaws.{next_is}
use Rattle.lzk_residual.proofs.points.round_claim.Goals as goal

pub returns : goal.returns
returns g c =
    let f = g.F.Field in
    let o = f.ops in
    let a = c.args in
    let s = c.shares-shares in
    let d = minus o a.claim a.p0 in
    c.add-2.ensures ∙ ap (λ x. o.plus x c.mul-third.result) (c.add.ensures ∙ ap (λ x. o.plus x c.mul-second.result) c.mul-first.ensures
    ∙ ap (o.plus (o.times a.p0 s.result.first)) (c.mul-second.ensures ∙ ap (λ x. o.times x s.result.second) c.sub.ensures))
    ∙ ap (o.plus (o.plus (o.times a.p0 s.result.first) (o.times d s.result.second))) c.mul-third.ensures
    ∙ next_is o f.laws.ring f.coding.element a.claim a.p0 a.p2 a.t s.result.first s.result.second s.result.third s.ensures.first s.ensures.second s.ensures.third
