use Rattle.std.proofs.Common.{ap, sym, subst, ◌+◌, length, arith}
use Rattle.std.proofs.lemmas.List.{length-take}
use Rattle.lzk_level.specs.Nodes.{AreGates}
use Rattle.lzk_level.proofs.FlatGateLaws.{gates-take}
use Rattle.lzk_level.proofs.builder.Builder.cut.Goals as goal

pub invariant_of-self : goal.invariant_of-self
invariant_of-self g c =
    let i = c.self.invariant in
    let b = c.self.inside in
    let is = c.cut.ensures in
    (i.0, i.1, omega (arith, i.2, ap length is, length-take c.args.count b.gates), subst (AreGates (b.publics + b.privates)) (sym is) (gates-take (b.publics + b.privates) c.args.count b.gates i.3))
