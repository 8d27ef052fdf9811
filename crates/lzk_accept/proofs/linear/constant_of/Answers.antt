use Rattle.std.proofs.Common.{ap, ◌∙◌}
use Rattle.lzk_field.specs.Sums.{minus}
use Rattle.lzk_accept.proofs.linear.constant_of.Goals as goal

pub returns : goal.returns
returns g c =
    let o = g.F.Field.ops in
    let a = c.args in
    let before = o.plus a.above.first (o.times a.alpha a.above.second) in
    c.sub.ensures
    ∙ ap (λ x. minus o x c.mul-4.result) (c.add-rounds.ensures ∙ ap (o.plus a.claim.constant) (c.mul-2.ensures ∙ ap (o.times a.claim.weight) (c.add-before.ensures ∙ ap (o.plus a.above.first) c.mul.ensures)))
    ∙ ap (minus o (o.plus a.claim.constant (o.times a.claim.weight before))) (c.mul-4.ensures ∙ ap (o.times a.bound) c.mul-3.ensures)
