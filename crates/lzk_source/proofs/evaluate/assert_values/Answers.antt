use Rattle.std.proofs.Common.{refl}
use Rattle.lzk_expr.specs.SourceValues.{given, source_value}
use Rattle.lzk_expr.specs.View.{statements_of}
use Rattle.lzk_source.proofs.Evaluating.{one_taken, all_asserts}
use Rattle.lzk_source.proofs.evaluate.assert_values.Goals as goal

pub loop-i-init : goal.loop-i-init
loop-i-init g c = rw (c.new-found.ensures.items, c.new-lets.ensures.items) refl

pub loop-i-preserved : goal.loop-i-preserved
loop-i-preserved g c =
    let l = c.loop-i in
    one_taken (given g.F.Field.ops g.F.Field.coding.element c.args.public.now c.args.private.now l.lets.items)
    (given g.F.Field.ops g.F.Field.coding.element c.args.public.now c.args.private.now c.take_statement-taken.new.lets.items) l.found.items c.take_statement-taken.new.found.items
    (source_value g.F.Field.ops g.F.Field.coding.element c.args.public.now c.args.private.now (statements_of c.args.statements.now)) c.args.statements.now l.i
    c.index-statements-i.result c.loop-i-test.true c.index-statements-i.is c.in-Ok.ensures l.invariant

pub returns : goal.returns
returns g c =
    let l = c.loop-i in
    all_asserts (given g.F.Field.ops g.F.Field.coding.element c.args.public.now c.args.private.now l.lets.items) l.found.items
    (source_value g.F.Field.ops g.F.Field.coding.element c.args.public.now c.args.private.now (statements_of c.args.statements.now)) c.args.statements.now l.i c.loop-i-test.false l.invariant
