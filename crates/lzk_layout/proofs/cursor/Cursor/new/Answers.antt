use Rattle.lzk_layout.specs.Fields.{shape}
use Rattle.lzk_layout.proofs.SizeLaws.{are_bounded}
use Rattle.lzk_layout.proofs.CursorStates.{new_pushed}
use Rattle.lzk_layout.proofs.cursor.Cursor.new.Goals as goal

pub new-requires : goal.new-requires
new-requires g c = are_bounded g.F.Field.ops c.args.params.now c.requires.params

pub invariant_of-result : goal.invariant_of-result
invariant_of-result g c = λ e. c.new.ensures.sound (shape g.F.Field.coding.bytes g.F.Field.coding.size)

pub returns-clause-pushed : goal.returns-clause-pushed
returns-clause-pushed g c =
    new_pushed (shape g.F.Field.coding.bytes g.F.Field.coding.size) c.args.params.now c.new.result c.new.ensures.params c.new.ensures.fields c.new.ensures.digests c.new.ensures.held
