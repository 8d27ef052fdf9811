use Rattle.std.proofs.Common.{◌≡◌, ◌++◌, ◌∷◌, [], map, lit≤, arith, sym, ap, ◌∙◌, length, refl}
use Rattle.std.proofs.lemmas.Result.{err_from_is_err_and}
use Rattle.std.proofs.lemmas.List.{map_push, length-map}
use Rattle.lzk_circuit.specs.Valid.{above_layer, above_inputs}
use Rattle.lzk_circbytes.specs.Numbered.{numbered_term, numbered_layer, is_coefficient}
use Rattle.lzk_circbytes.specs.Reading.{layer_at, layers_at}
use Rattle.lzk_circbytes.specs.Answers.{under}
use Rattle.lzk_circbytes.proofs.Loop.{goes_on, ends, is_done, begins}
use Rattle.lzk_circbytes.proofs.Marking.{marks_none, marks_layer}
use Rattle.lzk_circbytes.proofs.ReadSteps.{not_if_ok}
use Rattle.lzk_circbytes.proofs.reading.layers_of.Goals as goal

pub loop-init : goal.loop-init
loop-init g c =
    let number = g.F.Field.coding.number in
    record {
      wires = lit≤ tt;
      terms = lit≤ tt;
      flags = c.requires;
      used = rw c.in_ok-layers.ensures.items (marks_none (map number c.args.coefs.now.list.now) (is_coefficient []) c.args.used.now (λ n. refl));
      read = rw c.in_ok-layers.ensures.items (begins above_layer (layer_at (map number c.args.coefs.now.list.now)) c.args.count (above_inputs c.args.inputs) c.args.bytes.now);
    }

pub returns-in_err-layer-clause-value : goal.returns-in_err-layer-clause-value
returns-in_err-layer-clause-value g c =
    let p = err_from_is_err_and c.from_residual-in_err-layer.result c.from_residual-in_err-layer.ensures.1 in
    let numbers = map g.F.Field.coding.number c.args.coefs.now.list.now in
    rw (p.1, p.2) (ends above_layer (layer_at numbers) c.in_err-layer.field-0.0 (map (numbered_layer g.F.Field.coding.number) c.loop.layers.items) c.args.count c.loop.counter (under c.loop.below.width c.loop.below.wires c.loop.below.terms) c.loop.rest.now (layers_at numbers c.args.inputs c.args.count c.args.bytes.now) c.loop-test.true c.in_err-layer.ensures.value c.loop.invariant.read)

pub loop-preserved : goal.loop-preserved
loop-preserved g c =
    let number = g.F.Field.coding.number in
    let view = numbered_layer number in
    let numbers = map number c.args.coefs.now.list.now in
    let l = c.in_ok-layer.layer in
    let e : map view c.push.new.self.items ≡ map view c.loop.layers.items ++ view l ∷ [] = rw c.in_ok-push.ensures.items (map_push _ c.loop.layers.items l) in
    let m : length c.as_slice.result.now ≡ length l.terms = ap length c.as_slice.ensures in
    let n : length c.as_slice.result.now ≡ length (view l).terms = m ∙ sym (length-map l.terms (numbered_term number)) in
    record {
      wires = c.in_ok-layer.ensures.wires;
      terms = omega (arith, c.in_ok-layer.ensures.terms, m);
      flags = c.layer_of.auto.used ∙ c.loop.invariant.flags;
      used = rw e (marks_layer numbers (map view c.loop.layers.items) (view l) c.args.used.now c.loop.used c.layer_of.new.used c.loop.invariant.used c.in_ok-layer.ensures.used);
      read = rw (e, n) (goes_on above_layer (layer_at numbers) (map view c.loop.layers.items) c.args.count c.loop.counter (under c.loop.below.width c.loop.below.wires c.loop.below.terms) c.loop.rest.now (view l) c.in_ok-layer.after.now (layers_at numbers c.args.inputs c.args.count c.args.bytes.now) c.loop-test.true c.in_ok-layer.ensures.value c.loop.invariant.read);
    }

pub returns-clause-value : goal.returns-clause-value
returns-clause-value g c =
    let numbers = map g.F.Field.coding.number c.args.coefs.now.list.now in
    is_done above_layer (layer_at numbers) (map (numbered_layer g.F.Field.coding.number) c.loop.layers.items) c.args.count c.loop.counter (under c.loop.below.width c.loop.below.wires c.loop.below.terms) c.loop.rest.now (layers_at numbers c.args.inputs c.args.count c.args.bytes.now) c.loop-test.false c.loop.invariant.read

pub returns-in_err-layers-clause-used : goal.returns-in_err-layers-clause-used
returns-in_err-layers-clause-used g c = not_if_ok _ c.from_residual.result _ c.from_residual.ensures.1

pub returns-in_err-layer-clause-used : goal.returns-in_err-layer-clause-used
returns-in_err-layer-clause-used g c = not_if_ok _ c.from_residual-in_err-layer.result _ c.from_residual-in_err-layer.ensures.1

pub returns-in_err-push-clause-used : goal.returns-in_err-push-clause-used
returns-in_err-push-clause-used g c = not_if_ok _ c.from_residual-in_err-push.result _ c.from_residual-in_err-push.ensures.1

pub layer_of-requires-clause-flags : goal.layer_of-requires-clause-flags
layer_of-requires-clause-flags g c κs within = c.loop.invariant.flags

pub layer_of-requires-clause-wires : goal.layer_of-requires-clause-wires
layer_of-requires-clause-wires g c κs within = c.loop.invariant.wires

pub layer_of-requires-clause-terms : goal.layer_of-requires-clause-terms
layer_of-requires-clause-terms g c κs within = c.loop.invariant.terms

pub overflow_add-below : goal.overflow_add-below
overflow_add-below g c = omega (arith, c.in_ok-layer.ensures.wires)

pub overflow_add-below-in-loop : goal.overflow_add-below-in-loop
overflow_add-below-in-loop g c = omega (arith, c.in_ok-layer.ensures.terms, ap length c.as_slice.ensures)

pub returns-clause-used : goal.returns-clause-used
returns-clause-used g c = c.loop.invariant.used
