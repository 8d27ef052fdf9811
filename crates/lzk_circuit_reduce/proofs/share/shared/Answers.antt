use Rattle.std.proofs.Common.{◌∷◌, [], ap, sym, subst, arith, length, None}
use Rattle.std.proofs.lemmas.List.{length-append}
use Rattle.lzk_circuit.specs.Valid.{AreTerms}
use Rattle.lzk_circuit_reduce.specs.Shared.{IsMovedLayer}
use Rattle.lzk_circuit_reduce.proofs.SharedLayerLaws.{SharedFrom, shared-starts, shared-adds, shared-ends, layer-before, layer-first}
use Rattle.lzk_circuit_reduce.proofs.share.shared.Goals as goal

pub loop-l-init : goal.loop-l-init
loop-l-init g c =
    let layers = c.args.layers.now in
    let numbers = c.in-Ok.numbers.items in
    record {
      shared = subst (λ xs. SharedFrom g.F.Field.ops c.args.inputs layers (length layers) xs numbers) (sym c.in-Ok-with_capacity.ensures.items) (shared-starts g.F.Field.ops c.args.inputs layers numbers c.requires.some c.in-Ok.ensures.count c.in-Ok.ensures.each);
      count = omega (arith, ap length c.in-Ok-with_capacity.ensures.items);
      room = omega (arith, c.in-Ok-with_capacity.ensures.capacity);
    }

pub push_reserved-requires : goal.push_reserved-requires
push_reserved-requires g c = omega (arith, c.loop-l.invariant.count, c.loop-l.invariant.room, c.loop-l-test.true)

pub push_reserved-requires-2 : goal.push_reserved-requires-2
push_reserved-requires-2 g c = omega (arith, c.loop-l.invariant.count, c.loop-l.invariant.room, c.loop-l.invariant.shared.inner)

pub shared_layer-requires-clause-terms : goal.shared_layer-requires-clause-terms
shared_layer-requires-clause-terms g c κs within =
    (layer-before g.F.Field.ops c.args.inputs c.args.layers.now c.loop-l.l c.loop-l.kept.items c.loop-l.numbers.items c.index-layers-l.result c.loop-l-test.true c.loop-l.auto.l c.index-layers-l.is c.requires.layers c.loop-l.invariant.shared).2

pub shared_layer-requires-clause-some : goal.shared_layer-requires-clause-some
shared_layer-requires-clause-some g c κs within =
    (layer-before g.F.Field.ops c.args.inputs c.args.layers.now c.loop-l.l c.loop-l.kept.items c.loop-l.numbers.items c.index-layers-l.result c.loop-l-test.true c.loop-l.auto.l c.index-layers-l.is c.requires.layers c.loop-l.invariant.shared).0

pub shared_layer-requires-clause-most : goal.shared_layer-requires-clause-most
shared_layer-requires-clause-most g c κs within =
    (layer-before g.F.Field.ops c.args.inputs c.args.layers.now c.loop-l.l c.loop-l.kept.items c.loop-l.numbers.items c.index-layers-l.result c.loop-l-test.true c.loop-l.auto.l c.index-layers-l.is c.requires.layers c.loop-l.invariant.shared).1

pub loop-l-preserved : goal.loop-l-preserved
loop-l-preserved g c =
    let kept = c.loop-l.kept.items in
    let push = c.push_reserved.ensures in
    let layer = c.in-Ok-shared_layer.layer in
    record {
      shared =
          shared-adds g.F.Field.ops c.args.inputs c.args.layers.now c.loop-l.l kept c.push_reserved.new.self.items c.loop-l.numbers.items c.index-layers-l.result layer c.shared_layer.new.numbers.items
          c.loop-l-test.true c.loop-l.auto.l c.index-layers-l.is c.requires.layers c.requires.ones push.items c.in-Ok-shared_layer.ensures c.loop-l.invariant.shared;
      count = omega (arith, ap length push.items, length-append kept (layer ∷ []), c.loop-l.invariant.count, c.loop-l-test.true);
      room = omega (arith, push.capacity, c.loop-l.invariant.room);
    }

pub moved_layer-moved-requires-after_bounds : goal.moved_layer-moved-requires-after_bounds
moved_layer-moved-requires-after_bounds g c κs within =
    let layer = c.index-layers-0.result in
    subst (λ ns. AreTerms g.F.Field.ops layer.wires (length ns) None layer.terms) (sym c.deref.ensures.value)
    (layer-first g.F.Field.ops c.args.inputs c.args.layers.now c.loop-l.l c.loop-l.kept.items c.loop-l.numbers.items layer c.loop-l-test.false c.requires.some c.index-layers-0.is c.requires.layers c.loop-l.invariant.shared)

pub returns : goal.returns
returns g c =
    let o = g.F.Field.ops in
    let layer = c.index-layers-0.result in
    let top = c.in-Ok-moved.top in
    let moved = subst (λ ns. IsMovedLayer o layer ns top) c.deref.ensures.value c.in-Ok-moved.ensures in
    let s = shared-ends o c.args.inputs c.args.layers.now c.loop-l.l c.loop-l.kept.items c.push_reserved-2.new.self.items c.reverse.new.self.items c.loop-l.numbers.items layer top c.loop-l-test.false c.requires.some c.index-layers-0.is c.requires.layers c.push_reserved-2.ensures.items c.reverse.ensures.items
    moved c.loop-l.invariant.shared in
    let all = s.all in
    let form = all.form in
    record { count = form.count; valid = form.valid; outputs = form.outputs; values = form.values; ones = all.ones; different = all.different }
