use Rattle.std.specs.Prelude.{◌≡◌, ◌↔◌, IsTrue}
use Rattle.std.proofs.Common.{subst}
use Rattle.lzk_poly.specs.Extension.{extension}
use Rattle.lzk_verify.proofs.quadratic.is_quadratic_at.Goals as goal

pub returns : goal.returns
returns g c = λ point values is extends.
    let f = g.F.Field in
    subst (λ (z : g.row.F.Denot). IsTrue c.extend_to.result ↔ extension f.ops f.coding.element values point ≡ z) c.quadratic_sum.ensures (c.extend_to.ensures point values is extends)
