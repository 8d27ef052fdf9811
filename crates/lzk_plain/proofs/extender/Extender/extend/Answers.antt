use Rattle.std.proofs.Common.{◌+◌, arith}
use Rattle.lzk_field.specs.Sums.{entry}
use Rattle.lzk_poly.proofs.Blocks.{is_extension_of}
use Rattle.lzk_plain.proofs.extender.Extender.extend.Goals as goal

pub returns-clause-through : goal.returns-clause-through
returns-clause-through g c =
    let m = g.F.Field in
    let values = c.args.values.now in
    λ k h. is_extension_of m.laws values (c.args.self.now.count + k) (entry m.ops c.extend_from.new.out k) (omega arith) (rw (← c.count.ensures.value) (c.extend_from.ensures k h))
