use Rattle.std.proofs.Common.{ap, ◌∙◌}
use Rattle.lzk_poly_ntt.specs.Prepared.{times_over}
use Rattle.lzk_poly_ntt.proofs.prepared.Prepared.new.Goals as goal

pub returns : goal.returns
returns g c =
    let m = g.F.Field in
    ap (λ x. m.ops.times x (m.ops.inverse g.F.Factor.scale)) c.scaled.ensures.scaled
    ∙ times_over m.ops m.laws.ring m.laws.field g.F.Factor.scale c.scaled.ensures.not_zero c.args.factor
