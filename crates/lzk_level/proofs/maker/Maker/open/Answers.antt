use Rattle.std.proofs.lemmas.Result.{on_ok_weaker}
use Rattle.lzk_level.specs.Steps.{held_in}
use Rattle.lzk_level.proofs.FactorLaws.{opened}
use Rattle.lzk_level.proofs.maker.Maker.open.Goals as goal

pub returns : goal.returns
returns g c =
    let pushed = c.push-pushed in
    on_ok_weaker pushed.result (opened g.F.Field.ops (held_in c.args.self.now) (held_in c.begin.new.self) pushed.new.list.items c.begin.ensures) pushed.ensures.added
