use Rattle.lzk_level.specs.Steps.{held_in}
use Rattle.lzk_level.proofs.FactorLaws.{next-part}
use Rattle.lzk_level.proofs.FlatGateLaws.{not-on-ok}
use Rattle.lzk_level.proofs.maker.Maker.part.Goals as goal

pub add_part-requires-after_bounds : goal.add_part-requires-after_bounds
add_part-requires-after_bounds g c κs within = c.requires

pub returns-in_err-self : goal.returns-in_err-self
returns-in_err-self g c = not-on-ok _ c.from_residual.result _ c.from_residual.ensures.1

pub returns : goal.returns
returns g c =
    let e = c.in_ok-self.ensures in
    next-part g.F.Field.ops (held_in c.args.self.now) c.args.minus c.add_part.new.builder _ c.add_part.new.parts.items e.nodes e.total e.parts
