use Rattle.std.proofs.Common.{arith}
use Rattle.lzk_level.proofs.FormedLaws.{compilable}
use Rattle.lzk_level.proofs.FlatGateLaws.{not-ok}
use Rattle.lzk_level.proofs.StepLaws.{begun}
use Rattle.lzk_level.proofs.maker.new_maker.Goals as goal

pub with_room-requires-clause-publics : goal.with_room-requires-clause-publics
with_room-requires-clause-publics g c =
    let some = c.words-words.ensures.some in
    omega (arith, (compilable some.source some.formed).publics, some.is.publics_are, c.publics.ensures)

pub with_room-requires-clause-privates : goal.with_room-requires-clause-privates
with_room-requires-clause-privates g c =
    let some = c.words-words.ensures.some in
    omega (arith, (compilable some.source some.formed).privates, some.is.privates_are, c.privates.ensures)

pub returns : goal.returns
returns g c =
    begun g.F.Field.ops c.args.code.now.publics c.args.code.now.privates c.publics.result c.privates.result c.in_ok-builder.builder c.new.result.items c.nothing_of.result c.new-2.result.items c.new-3.result.items c.new-4.result.items c.publics.ensures c.privates.ensures
    c.in_ok-builder.ensures.inputs c.new.ensures.items c.nothing_of.ensures c.new-2.ensures.items c.new-3.ensures.items c.new-4.ensures.items

pub returns-in_err-builder : goal.returns-in_err-builder
returns-in_err-builder g c = not-ok c.from_residual.result _ _ c.from_residual.ensures.1
