use Rattle.std.proofs.Common.{arith}
use Rattle.lzk_circuit_reduce.proofs.PrunedLaws.{pruning-starts, pruning-ends}
use Rattle.lzk_circuit_reduce.proofs.prune.pruned.Goals as goal

pub bounds-layers-0 : goal.bounds-layers-0
bounds-layers-0 g c = omega (arith, c.args.given.now.are.some)

pub loop-l-init : goal.loop-l-init
loop-l-init g c =
    let given = c.args.given.now in
    pruning-starts g.F.Field.ops given.inputs given.targets.now given.layers.now c.index-layers-0.result c.in-Ok.above.marks.items c.new-moved.result.items c.new-kept.result.items given.are.some given.are.valid c.in-Ok.ensures.count
    c.in-Ok.ensures.marks c.new-moved.ensures.items c.new-kept.ensures.items

pub add_pruned-requires-clause-there : goal.add_pruned-requires-clause-there
add_pruned-requires-clause-there g c κs within = c.loop-l-test.true

pub add_pruned-requires-clause-done : goal.add_pruned-requires-clause-done
add_pruned-requires-clause-done g c κs within = c.loop-l.invariant

pub loop-l-preserved : goal.loop-l-preserved
loop-l-preserved g c = c.in-Ok-add_pruned.ensures

pub returns : goal.returns
returns g c =
    let given = c.args.given.now in
    pruning-ends g.F.Field.ops given.inputs given.targets.now given.layers.now c.loop-l.above.marks.items c.loop-l.l c.loop-l.moved.items c.loop-l.kept.items c.loop-l-test.false c.loop-l.invariant
