use Rattle.std.proofs.Common.{ap, ◌∙◌, sym}
use Rattle.std.proofs.Math.ListN.{get_or-eq_default}
use Rattle.lzk_field.proofs.RingBasics.{times_zero}
use Rattle.lzk_poly_ntt.proofs.kernels.scaled.Goals as goal

pub returns-else-place-inverses : goal.returns-else-place-inverses
returns-else-place-inverses g c =
    let o = g.F.Field.ops in
    c.zero.ensures ∙ sym (ap (o.times c.args.scale) (get_or-eq_default c.args.inverses.now o.zero {n = c.args.place} c.if-place-inverses.false) ∙ times_zero o g.F.Field.laws.ring c.args.scale)
