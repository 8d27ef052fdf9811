use Rattle.std.proofs.Common.{rules, ◌≡◌, length, arith}
use Rattle.lzk_poly.proofs.Blocks.{is_extension_of}
use Rattle.lzk_plain.proofs.extender.Extender.extend_at.Goals as goal

pub returns-clause-through : goal.returns-clause-through
returns-clause-through g c =
    let counted : length c.args.values.now ≡ c.self.inside.weights.count = search rules in
    is_extension_of g.F.Field.laws c.args.values.now c.args.j c.value_at.result (omega (arith, counted, c.self.invariant.0, c.self.invariant.1)) c.value_at.ensures
