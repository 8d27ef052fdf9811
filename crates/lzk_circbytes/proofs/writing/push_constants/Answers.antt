use Rattle.std.proofs.Common.{◌++◌, ◌∙◌}
use Rattle.lzk_circbytes.specs.Numbered.{Shape, shape}
use Rattle.lzk_circbytes.specs.Spelling.{constants_bytes}
use Rattle.lzk_circbytes.proofs.Written.{constants_go_on, constants_end}
use Rattle.lzk_circbytes.proofs.writing.push_constants.Goals as goal

pub loop-c-preserved : goal.loop-c-preserved
loop-c-preserved g c =
    let s : Shape = shape g.F.Field.coding.id g.F.Field.coding.bytes g.F.Field.coding.size in
    constants_go_on s c.loop-c.out.items c.push_bytes.new.out.items c.args.out.now.items c.loop-c.c-index c.BYTES.result c.args.constants.now (constants_bytes s c.args.constants.now) c.loop-c-test.true (c.BYTES.ensures ∙ g.F.Field.coded_bytes) c.in_ok-push_bytes.ensures c.loop-c.invariant

pub returns : goal.returns
returns g c =
    let s : Shape = shape g.F.Field.coding.id g.F.Field.coding.bytes g.F.Field.coding.size in
    constants_end s c.loop-c.out.items (c.args.out.now.items ++ constants_bytes s c.args.constants.now) c.loop-c.c-index c.args.constants.now c.loop-c-test.false c.loop-c.invariant
