use Rattle.std.proofs.Common.{ap, ◌∙◌}
use Rattle.lzk_poly_ntt.specs.Prepared.{product_over}
use Rattle.lzk_poly_ntt.proofs.prepared.Prepared.times.Goals as goal

pub returns : goal.returns
returns g c =
    let m = g.F.Field in
    product_over m.ops m.laws.ring m.laws.field g.F.Factor.scale c.self.invariant c.args.value c.self.inside.scaled c.mul_over_scale.result c.mul_over_scale.ensures
    ∙ ap (m.ops.times c.args.value) c.self.view_is
