use Rattle.std.proofs.Common.{◌≡◌, List, ap, sym, ◌∙◌, subst}
use Rattle.lzk_poly_ntt.specs.Transform.{doubled, spectrum, AreTwiddles, IsRoot, Order}
use Rattle.lzk_poly_ntt.proofs.transform.Transform.backward.Goals as goal

pub returns-clause-root : goal.returns-clause-root
returns-clause-root g c = subst (λ (d : Order g.row.F.Denot). IsRoot g.F.Field.ops d.bits d.root) c.self.view_is c.self.invariant.1

pub returns-clause-entries : goal.returns-clause-entries
returns-clause-entries g c =
    let o = g.F.Field.ops in
    let inside = c.self.inside in
    let inv = c.self.invariant in
    let twiddles : AreTwiddles o inside.bits inside.inverse c.deref.result.now = subst (λ (ts : List g.row.F.Denot). AreTwiddles o inside.bits inside.inverse ts) (sym c.deref.ensures.value) inv.6 in
    λ x known i h.
    c.backward.ensures inside.root inside.inverse x inv.1 inv.2 twiddles (λ j l. known j l ∙ ap (λ (d : Order g.row.F.Denot). spectrum o d.bits d.root x j) (sym c.self.view_is)) i h
    ∙ ap (λ (d : Order g.row.F.Denot). o.times (doubled o d.bits) (x i)) c.self.view_is
