use Rattle.std.proofs.Common.{◌<◌, ◌∙◌, get_or, ap, sym, subst, length, arith}
use Rattle.std.proofs.lemmas.List.{length-map}
use Rattle.lzk_level.specs.FlatGates.{gate_in, gate_of, IsSpanned}
use Rattle.lzk_level.proofs.FlatGateLaws.{gate-read, spanned-at}
use Rattle.lzk_level.proofs.gates.Gates.gate.Goals as goal

pub lend-requires-after_bounds : goal.lend-requires-after_bounds
lend-requires-after_bounds g c κs within =
    let parts = c.self.inside.parts.items in
    let made = c.self.inside.made.items in
    let there : c.args.i < length made = omega (arith, c.requires, ap length c.self.view_is, length-map made (gate_in parts)) in
    subst (λ ps. IsSpanned (length ps) c.index.result.now) (sym c.deref.ensures.value) (spanned-at (length parts) c.args.i made c.index.result.now c.self.invariant there c.index.ensures)

pub index-requires : goal.index-requires
index-requires g c = omega (arith, c.requires, ap length c.self.view_is, length-map c.self.inside.made.items (gate_in c.self.inside.parts.items), c.self.inside.made.ok.0)

pub returns : goal.returns
returns g c =
    let parts = c.self.inside.parts.items in
    let made = c.self.inside.made.items in
    let there : c.args.i < length made = omega (arith, c.requires, ap length c.self.view_is, length-map made (gate_in parts)) in
    gate-read parts made c.args.i c.index.result.now (gate_of c.lend.result) there c.index.ensures (c.lend.ensures ∙ ap (λ ps. gate_in ps c.index.result.now) c.deref.ensures.value)
    ∙ ap (λ gs. get_or gs c.args.i (gate_of c.lend.result)) c.self.view_is
