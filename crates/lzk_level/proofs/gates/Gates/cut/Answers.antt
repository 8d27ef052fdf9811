use Rattle.std.proofs.Common.{◌∙◌, ap, sym, subst, length, take}
use Rattle.std.proofs.lemmas.List.{take-map}
use Rattle.lzk_level.specs.FlatGates.{gate_in, gates_in, AreSpanned}
use Rattle.lzk_level.proofs.FlatGateLaws.{spanned-take}
use Rattle.lzk_level.proofs.gates.Gates.cut.Goals as goal

pub invariant_of-self : goal.invariant_of-self
invariant_of-self g c =
    let parts = c.self.inside.parts.items in
    subst (AreSpanned (length parts)) (sym c.truncate.ensures.items) (spanned-take (length parts) c.args.count c.self.inside.made.items c.self.invariant)

pub returns : goal.returns
returns g c =
    let parts = c.self.inside.parts.items in
    ap (gates_in parts) c.truncate.ensures.items ∙ sym (take-map (gate_in parts) c.args.count c.self.inside.made.items) ∙ ap (take c.args.count) c.self.view_is
