use Rattle.std.proofs.Common.{◌≡◌, length, refl, sym, ap, ◌∙◌, subst, arith}
use Rattle.std.specs.Prelude.{List}
use Rattle.std.specs.List.{refill}
use Rattle.std.specs.Vec.{with_items}
use Rattle.std.proofs.lemmas.List.{with_items_is}
use Rattle.lzk_transcript.specs.Columns.{after_draws}
use Rattle.lzk_layout.specs.Places.{output_bits}
use Rattle.lzk_sumcheck.specs.declared.script.LayerScript.{LayerScript}
use Rattle.lzk_sumcheck.specs.declared.script.Script.{Script}
use Rattle.lzk_sumcheck.specs.Coefficients.{AreBounds}
use Rattle.lzk_sumcheck.specs.Script as spec
use Rattle.lzk_sumcheck.specs.Script.{HasShape}
use Rattle.lzk_sumcheck.proofs.Filled.{refill_whole}
use Rattle.lzk_sumcheck.proofs.ScriptLaws.{script_whole, tape_whole}
use Rattle.lzk_sumcheck.proofs.ShapeLaws.{script_shape}
use Rattle.lzk_sumcheck_rounds.specs.Orders.{AreOrders}
use Rattle.lzk_sumcheck_rounds.specs.Room.{RoundsRoom}
use Rattle.lzk_sumcheck_rounds.specs.Tables.{TableRoom}
use Rattle.lzk_sumcheck_prover.specs.Scripts.{HaveBits}
use Rattle.lzk_sumcheck_prover.proofs.proving.prove_assigned.Goals as goal

pub prove_list-requires-clause-room : goal.prove_list-requires-clause-room
prove_list-requires-clause-room g c κs within =
    let w = c.args.on.now.circuit.now in
    let made = c.requires.room in
    record {
      orders = subst (AreOrders w) (sym (c.deref.ensures.value ∙ ap (λ (x : RoundsRoom _). x.orders) c.room.view_is)) made.orders;
      pairs = λ l h. omega (arith, made.pairs l h, ap (λ (x : RoundsRoom _). x.pairs) c.room.view_is);
      places = λ l h. omega (arith, made.places l h, ap (λ (x : RoundsRoom _). x.places) c.room.view_is, c.room.invariant);
      bounds = ap length (c.deref_mut-2.ensures.value ∙ ap (λ (x : RoundsRoom _). x.bounds) c.room.view_is) ∙ made.bounds;
    }

pub prove_list-requires-clause-layers : goal.prove_list-requires-clause-layers
prove_list-requires-clause-layers g c κs within =
    let w = c.args.on.now.circuit.now in
    let have : HaveBits w c.args.script.now.layers = record { count = c.requires.shape.depth; each = c.requires.shape.layers } in
    subst (HaveBits w) (sym (c.deref_mut-3.ensures.value ∙ ap (λ (s : Script _). s.layers) c.script.view_is)) have

pub prove_list-requires-clause-weights : goal.prove_list-requires-clause-weights
prove_list-requires-clause-weights g c κs within = c.room.invariant ∙ sym (ap length c.deref_mut.ensures.value)

pub invariant_of-room : goal.invariant_of-room
invariant_of-room g c =
    let inside = c.room.inside in
    let nw : length c.prove_list.new.weights ≡ inside.weights.len = omega (arith, c.prove_list.auto.weights, ap length c.deref_mut.ensures.value, inside.weights.ok.0) in
    omega (arith, ap (λ (r : TableRoom). r.places) c.prove_list.ensures.room, c.room.invariant, ap length (with_items_is inside.weights c.prove_list.new.weights nw), nw, inside.weights.ok.0)

pub returns : goal.returns
returns g c =
    let f = g.F.Field in
    let e = f.coding in
    let w = c.args.on.now.circuit.now in
    let t = c.args.tape.now in
    let ms = c.prove_list.new.messages in
    let start = after_draws (output_bits w) t in
    let last = c.prove_list.new.tape in
    let out = c.prove_list.new.point in
    let old = c.script.inside.0.0 in
    let kept = c.script.inside.0.1.0.list in
    let layers = c.prove_list.new.layers in
    let all = c.prove_list.ensures in
    let same : length out ≡ length old = omega (arith, ap length c.as_mut_slice.ensures.value, c.prove_list.auto.point) in
    let nl : length layers ≡ kept.len = omega (arith, c.prove_list.auto.layers, ap length c.deref_mut-3.ensures.value, kept.ok.0) in
    let make : List g.row.F.Denot → List (LayerScript g.row.F.Denot) → Script g.row.F.Denot = λ xs ls. record { out_point = xs; layers = ls; gamma = c.draw-script-inside.result } in
    let filled : make (refill (length old) old out) (with_items kept layers).items ≡ spec.script f.ops e ms w t =
    ap (λ xs. make xs (with_items kept layers).items) (refill_whole (length old) old out same)
    ∙ ap (make out) (with_items_is kept layers nl)
    ∙ script_whole f.ops e ms w t out layers c.draw-script-inside.result start last refl all.after all.point all.scripts c.draw-script-inside.ensures.value in
    let inside = c.room.inside in
    let nw : length c.prove_list.new.weights ≡ inside.weights.len = omega (arith, c.prove_list.auto.weights, ap length c.deref_mut.ensures.value, inside.weights.ok.0) in
    let nb : length c.prove_list.new.bounds ≡ inside.bounds.len = omega (arith, c.prove_list.auto.bounds, ap length c.deref_mut-2.ensures.value, inside.bounds.ok.0) in
    let bounds_are = with_items_is inside.bounds c.prove_list.new.bounds nb in
    let pairs = ap (λ (r : TableRoom). r.pairs) all.room ∙ ap (λ (x : RoundsRoom _). x.pairs) c.room.view_is in
    let places : length (with_items inside.weights c.prove_list.new.weights).items ≡ c.args.room.now.places =
    omega (arith, ap length (with_items_is inside.weights c.prove_list.new.weights nw), nw, inside.weights.ok.0, ap (λ (x : RoundsRoom _). x.places) c.room.view_is) in
    record {
      messages = record { count = c.prove_list.auto.messages ∙ c.requires.messages; layers = all.sent };
      script = filled;
      tape = tape_whole f.ops e ms w t start last c.draw-script-inside.new.self refl all.after c.draw-script-inside.ensures.after;
      shape = subst (λ s. HasShape w s) (sym filled) (script_shape f.ops e ms w t);
      room = record {
        orders = subst (AreOrders w) (sym (ap (λ (x : RoundsRoom _). x.orders) c.room.view_is)) c.requires.room.orders;
        pairs = λ l h. omega (arith, c.requires.room.pairs l h, pairs);
        places = λ l h. omega (arith, c.requires.room.places l h, places);
        bounds = ap length bounds_are ∙ all.bounds.count;
      };
      bounds = subst (λ s. AreBounds f.ops w s (with_items inside.bounds c.prove_list.new.bounds).items) (sym filled)
          (subst (AreBounds f.ops w (spec.script f.ops e ms w t)) (sym bounds_are) all.bounds);
    }

pub prove_list-requires-clause-messages : goal.prove_list-requires-clause-messages
prove_list-requires-clause-messages g c κs within = c.requires.messages

pub prove_list-requires-clause-point : goal.prove_list-requires-clause-point
prove_list-requires-clause-point g c κs within = ap length c.as_mut_slice.ensures.value ∙ ap (λ (s : Script _). length s.out_point) c.script.view_is ∙ c.requires.shape.out_point
