use Rattle.std.proofs.lemmas.Result.{on_ok_weaker}
use Rattle.lzk_level.specs.Steps.{held_in}
use Rattle.lzk_level.proofs.FactorLaws.{defined}
use Rattle.lzk_level.proofs.FlatGateLaws.{not-on-ok}
use Rattle.lzk_level.proofs.maker.Maker.define.Goals as goal

pub sum-requires-after_bounds : goal.sum-requires-after_bounds
sum-requires-after_bounds g c κs within = c.requires

pub returns-in_err-operand : goal.returns-in_err-operand
returns-in_err-operand g c = not-on-ok _ c.from_residual.result _ c.from_residual.ensures.1

pub returns : goal.returns
returns g c =
    let e = c.in_ok-operand.ensures in
    on_ok_weaker c.push.result (defined g.F.Field.ops (held_in c.args.self.now) (held_in c.sum.new.self) (held_in c.begin.new.self) c.in_ok-operand.operand c.push.new.list.items e.held e.value c.begin.ensures) c.push.ensures.added
