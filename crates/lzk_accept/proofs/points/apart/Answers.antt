use Rattle.std.proofs.Common.{sym, ap, ◌∙◌}
use Rattle.lzk_field.specs.Sums.{minus}
use Rattle.lzk_field.proofs.RingBasics.{product_nonzero, difference_nonzero}
use Rattle.lzk_accept.proofs.points.apart.Goals as goal

pub inverse_of-requires-after_bounds : goal.inverse_of-requires-after_bounds
inverse_of-requires-after_bounds g c κs within = λ e.
    let f = g.F.Field in
    let a = c.args in
    product_nonzero f.ops f.laws.ring f.laws.field (minus f.ops a.x a.u) (minus f.ops a.x a.v)
    (difference_nonzero f.ops f.laws.ring f.laws.field a.x a.u c.requires.first) (difference_nonzero f.ops f.laws.ring f.laws.field a.x a.v c.requires.second)
    (sym (c.mul.ensures ∙ ap (λ w. f.ops.times w c.sub-2.result) c.sub.ensures ∙ ap (f.ops.times (minus f.ops a.x a.u)) c.sub-2.ensures) ∙ e)
