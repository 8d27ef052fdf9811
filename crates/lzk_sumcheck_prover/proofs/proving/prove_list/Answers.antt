use Rattle.std.proofs.Common.{ℕ, List, ◌≡◌, ◌+◌, ◌-◌, ◌*◌, ◌^◌, ◌<◌, ◌≤◌, ◌++◌, length, take, drop, refl, sym, ap, ◌∙◌, arith, subst}
use Rattle.std.specs.Prelude.{None, map}
use Rattle.std.specs.List.{range_with_len}
use Rattle.std.proofs.lemmas.List.{length-drop, length-take-le, take-append-drop}
use Rattle.lzk_field.specs.Sums.{entry}
use Rattle.lzk_mle.specs.Multilinear.{eq}
use Rattle.lzk_transcript.specs.Columns.{after_draws}
use Rattle.lzk_circuit.specs.Valid.{ArePlaced}
use Rattle.lzk_circuit.proofs.BitLaws.{bits_enough}
use Rattle.lzk_layout.specs.Places.{depth, width_at, bits_under, output_bits, sent_at}
use Rattle.lzk_layout.proofs.PlaceLaws.{sent_within}
use Rattle.lzk_sumcheck.specs.Draws.{draws}
use Rattle.lzk_sumcheck.specs.Layers.{layer_of_terms}
use Rattle.lzk_sumcheck_rounds.specs.Orders.{IsOrderOf}
use Rattle.lzk_sumcheck.specs.Script.{after_first, round_challenge, layer_script, after_layer, after_layers}
use Rattle.lzk_sumcheck.specs.Sending.{AreRoundsSent}
use Rattle.lzk_sumcheck_rounds.specs.Tables.{TableRoom}
use Rattle.lzk_sumcheck.specs.Weights.{weighted}
use Rattle.lzk_sumcheck.proofs.LayerLaws.{AreReplayed, replayed_whole}
use Rattle.lzk_sumcheck.proofs.LayerShapes.{values_width}
use Rattle.lzk_sumcheck.proofs.ProvingLaws.{AreBound, proved-none, proved-more, bound-more, front-kept, part-stands, layer-has, times-less}
use Rattle.lzk_sumcheck_prover.proofs.proving.prove_list.Goals as goal

-- the first wires of so many
wires-wide : {X : Type 0} (n width : ℕ) (xs : List X) → width ≡ n → n ≤ length xs → length (take width xs) ≡ n
wires-wide n width xs is fits = length-take-le width xs (omega (arith, is, fits)) ∙ is

pub set_points-requires-clause-room : goal.set_points-requires-clause-room
set_points-requires-clause-room g c κs within =
    let w = c.args.given.now.on.now.circuit.now in
    let n : length c.draw_all.new.out ≡ output_bits w = omega (arith, c.draw_all.auto.out, c.requires.point) in
    omega (arith, ap (λ n. 2 ^ n) n, c.requires.room.places 0 (omega arith))

pub loop-l-init : goal.loop-l-init
loop-l-init g c =
    let f = g.F.Field in
    let o = f.ops in
    let e = f.coding in
    let w = c.args.given.now.on.now.circuit.now in
    let t = c.args.tape.now in
    let out = c.draw_all.new.out in
    let size = c.requires.point in
    let len : length out ≡ output_bits w = omega (arith, c.draw_all.auto.out, size) in
    let wide : width_at w 0 ≤ 2 ^ length out = omega (arith, ap (λ n. 2 ^ n) len, bits_enough (width_at w 0)) in
    let points : out ≡ draws e 0 (output_bits w) t = c.draw_all.ensures.drawn ∙ ap (λ n. draws e 0 n t) size in
    record {
      places = c.first-places.ensures.places;
      within = λ h. c.first-places.ensures.within;
      first = omega (arith, wide, c.set_points.ensures.first_length);
      second = omega (arith, wide, c.set_points.ensures.second_length);
      room = c.set_points.ensures.room;
      proved = proved-none o e w c.args.given.now.on.now.values.now.wires c.args.given.now.on.now.pads.now t c.args.layers.now c.draw_all.new.tape c.args.messages.now c.set_points.new.self.first c.set_points.new.self.second
          (c.draw_all.ensures.after ∙ ap (λ n. after_draws n t) size)
          (λ k h. c.set_points.ensures.first k (omega (arith, h, wide)) ∙ ap (eq o k) points)
          (λ k h. c.set_points.ensures.second k (omega (arith, h, wide)) ∙ ap (eq o k) points);
      bound = λ k h. absurd (omega arith);
    }

pub offset_bounds-layers-l : goal.offset_bounds-layers-l
offset_bounds-layers-l g c =
    let inside : c.loop-l.l < length c.args.layers.now = omega (arith, c.depth-depth.ensures.depth, c.loop-l-test.true, c.loop-l.auto.l-end, c.requires.layers.count) in
    record { fits = times-less c.loop-l.l (length c.args.layers.now) _ _ inside (omega arith) }

pub offset_bounds-bounds-l : goal.offset_bounds-bounds-l
offset_bounds-bounds-l g c =
    let inside : c.loop-l.l < length c.args.bounds.now = omega (arith, c.depth-depth.ensures.depth, c.loop-l-test.true, c.loop-l.auto.l-end, c.requires.room.bounds) in
    record { fits = times-less c.loop-l.l (length c.args.bounds.now) _ _ inside (omega arith) }

pub prove_layer-requires-clause-bits : goal.prove_layer-requires-clause-bits
prove_layer-requires-clause-bits g c κs within =
    let w = c.args.given.now.on.now.circuit.now in
    let l = c.loop-l.l in
    let h : l < depth w = subst (λ (n : ℕ). c.loop-l.l < n) c.depth-depth.ensures.depth c.loop-l-test.true in
    let few = c.layer_of-layer.ensures.bits ∙ ap (λ p. p.bits) c.loop-l.invariant.places in
    let has = layer-has g.F.Field.ops g.F.Field.coding c.loop-l.messages w (after_draws (output_bits w) c.args.tape.now) c.args.layers.now l c.loop-l.tape c.loop-l.layers c.loop-l.invariant.proved.replayed
    (omega (arith, h, c.loop-l.auto.layers, c.requires.layers.count)) (omega (arith, h, c.requires.layers.count)) c.requires.layers.each c.index-layers-l.result in
    record { ra = has.ra ∙ sym few; rb = has.rb ∙ sym few }

pub prove_layer-requires-clause-first : goal.prove_layer-requires-clause-first
prove_layer-requires-clause-first g c κs within =
    let w = c.args.given.now.on.now.circuit.now in
    let l = c.loop-l.l in
    let h : l < depth w = subst (λ (n : ℕ). c.loop-l.l < n) c.depth-depth.ensures.depth c.loop-l-test.true in
    omega (arith, wires-wide (width_at w l) c.width.result c.loop-l.weights c.width.ensures (omega (arith, bits_enough (width_at w l), c.requires.room.places l (omega (arith, h)), c.requires.weights, c.loop-l.auto.weights)), c.loop-l.invariant.first)

pub prove_layer-requires-clause-second : goal.prove_layer-requires-clause-second
prove_layer-requires-clause-second g c κs within =
    let w = c.args.given.now.on.now.circuit.now in
    let l = c.loop-l.l in
    let h : l < depth w = subst (λ (n : ℕ). c.loop-l.l < n) c.depth-depth.ensures.depth c.loop-l-test.true in
    omega (arith, wires-wide (width_at w l) c.width.result c.loop-l.weights c.width.ensures (omega (arith, bits_enough (width_at w l), c.requires.room.places l (omega (arith, h)), c.requires.weights, c.loop-l.auto.weights)), c.loop-l.invariant.second)

pub loop-l-preserved : goal.loop-l-preserved
loop-l-preserved g c =
    let f = g.F.Field in
    let o = f.ops in
    let e = f.coding in
    let w = c.args.given.now.on.now.circuit.now in
    let l = c.loop-l.l in
    let inv = c.loop-l.invariant in
    let h : l < depth w = subst (λ (n : ℕ). c.loop-l.l < n) c.depth-depth.ensures.depth c.loop-l-test.true in
    let inside : l < length c.loop-l.layers = omega (arith, h, c.loop-l.auto.layers, c.requires.layers.count) in
    let it = c.layer_of-layer.ensures in
    let k = c.layer_of-layer.result.bits in
    let all = c.prove_layer.ensures in
    let m = c.loop-l.messages in
    let b = c.loop-l.places.messages in
    let n = b + (4 * c.loop-l.places.bits + 2) - b in
    let front = take b m in
    let sent = c.prove_layer.new.sent in
    let rest = drop n (drop b m) in
    let wires = take c.width.result c.loop-l.weights in
    let vs = c.layer_of-layer.result.of.values.now in
    let begins : c.loop-l.places.messages ≡ sent_at w l = ap (λ p. p.messages) inv.places in
    let few : k ≡ bits_under w l = it.bits ∙ ap (λ p. p.bits) inv.places in
    let fits : b + (4 * c.loop-l.places.bits + 2) ≤ length m = omega (arith, begins, ap (λ p. p.bits) inv.places, sent_within w l h, c.requires.messages, c.loop-l.auto.messages) in
    let size : length front ≡ sent_at w l = length-take-le b m (omega (arith, fits)) ∙ begins in
    let count : length sent ≡ 4 * k + 2 = omega (arith, c.prove_layer.auto.sent, length-take-le n (drop b m) (omega (arith, fits, length-drop b m)), it.bits) in
    let wide : length wires ≡ width_at w l = wires-wide (width_at w l) c.width.result c.loop-l.weights c.width.ensures (omega (arith, bits_enough (width_at w l), c.requires.room.places l (omega (arith, h)), c.requires.weights, c.loop-l.auto.weights)) in
    let enough : width_at w (l + 1) ≤ 2 ^ k = omega (arith, ap (λ n. 2 ^ n) few, bits_enough (width_at w (l + 1))) in
    let now = c.loop-l.tape in
    let layer = c.prove_layer.new.script in
    let ts = c.layer_of-layer.result.of.terms.now in
    let script = all.script ∙ ap (λ v. layer_script o e sent v 0 k now) c.version-version.ensures.version in
    let after = all.after ∙ ap (λ v. after_layer o e sent v 0 k now) c.version-version.ensures.version in
    let rounds = subst (λ v. AreRoundsSent o f.coding.element (layer_of_terms o ts layer.beta (weighted o layer.alpha c.loop-l.tables.first c.loop-l.tables.second (length wires)) vs k) (map (round_challenge o e sent 0 (after_first v now)) (range_with_len 0 (2 * k))) c.layer_of-layer.result.pads.now sent)
    c.version-version.ensures.version all.rounds in
    record {
      places = c.next-places.ensures.places;
      within = c.next-places.ensures.within;
      first = omega (arith, all.first_length, enough);
      second = omega (arith, all.second_length, enough);
      room = all.room ∙ inv.room;
      proved = proved-more o e w c.args.given.now.on.now.values.now.wires c.args.given.now.on.now.pads.now c.args.tape.now c.args.layers.now l c.loop-l.tape c.prove_layer.new.tape c.loop-l.layers c.loop-l.messages (front ++ (sent ++ rest))
          c.loop-l.tables.first c.loop-l.tables.second c.prove_layer.new.tables.first c.prove_layer.new.tables.second sent c.layer_of-layer.result.pads.now k (length wires) ts vs c.prove_layer.new.script
          inv.proved h inside
          (front-kept o (sent_at w l) m front (drop b m) (sent ++ rest) (sym (take-append-drop b m)) size)
          few wide it.terms it.values
          script after
          (part-stands o (sent_at w l) (4 * k + 2) front sent rest size count)
          (λ j q. it.pads j (omega (arith, q, it.bits, few)) ∙ ap (λ b. entry o c.args.given.now.on.now.pads.now (b + j)) begins)
          rounds all.factor_a all.factor_b
          (λ j q. all.first j (omega (arith, q, enough)))
          (λ j q. all.second j (omega (arith, q, enough)));
      bound = bound-more o e w c.args.given.now.on.now.values.now.wires c.args.given.now.on.now.pads.now c.args.tape.now c.args.layers.now l c.loop-l.tape c.loop-l.layers c.loop-l.messages (front ++ (sent ++ rest))
          c.loop-l.tables.first c.loop-l.tables.second sent c.layer_of-layer.result.pads.now c.loop-l.bounds k (length wires) (length vs) ts c.prove_layer.new.script c.prove_layer.result
          inv.proved h (omega (arith, h, c.loop-l.auto.bounds, c.requires.room.bounds))
          (front-kept o (sent_at w l) m front (drop b m) (sent ++ rest) (sym (take-append-drop b m)) size)
          few wide it.terms
          (ap length it.values ∙ values_width w c.args.given.now.on.now.values.now.wires (l + 1) c.args.given.now.on.now.widths (omega (arith, h)))
          script (part-stands o (sent_at w l) (4 * k + 2) front sent rest size count) all.bound inv.bound;
    }

pub returns-clause-scripts : goal.returns-clause-scripts
returns-clause-scripts g c =
    let f = g.F.Field in
    let e = f.coding in
    let w = c.args.given.now.on.now.circuit.now in
    let start = after_draws (output_bits w) c.args.tape.now in
    let all : c.loop-l.l ≡ depth w = omega (arith, c.depth-depth.ensures.depth, c.loop-l-test.false, c.loop-l.auto.l-end) in
    let done = subst (λ l. AreReplayed f.ops e c.loop-l.messages w start c.args.layers.now l c.loop-l.tape c.loop-l.layers) all c.loop-l.invariant.proved.replayed in
    replayed_whole f.ops e c.loop-l.messages w start c.args.layers.now c.loop-l.tape c.loop-l.layers done (omega (arith, c.requires.layers.count, c.loop-l.auto.layers))

pub returns-clause-bounds : goal.returns-clause-bounds
returns-clause-bounds g c =
    let f = g.F.Field in
    let e = f.coding in
    let w = c.args.given.now.on.now.circuit.now in
    let a = c.args in
    let all : c.loop-l.l ≡ depth w = omega (arith, c.depth-depth.ensures.depth, c.loop-l-test.false, c.loop-l.auto.l-end) in
    record {
      count = omega (arith, c.loop-l.auto.bounds, c.requires.room.bounds);
      each = subst (λ l. AreBound f.ops e w a.given.now.on.now.values.now.wires a.given.now.on.now.pads.now a.tape.now a.layers.now l c.loop-l.messages c.loop-l.bounds) all c.loop-l.invariant.bound;
    }

pub set_points-requires-clause-same : goal.set_points-requires-clause-same
set_points-requires-clause-same g c κs within = refl

pub returns-clause-room : goal.returns-clause-room
returns-clause-room g c = c.loop-l.invariant.room

pub returns-clause-point : goal.returns-clause-point
returns-clause-point g c =
    let e = g.F.Field.coding in
    c.draw_all.ensures.drawn ∙ ap (λ n. draws e 0 n c.args.tape.now) c.requires.point

pub returns-clause-after : goal.returns-clause-after
returns-clause-after g c =
    let f = g.F.Field in
    let w = c.args.given.now.on.now.circuit.now in
    let all : c.loop-l.l ≡ depth w = omega (arith, c.depth-depth.ensures.depth, c.loop-l-test.false, c.loop-l.auto.l-end) in
    c.loop-l.invariant.proved.replayed.tape ∙ ap (λ (n : ℕ). after_layers f.ops f.coding c.loop-l.messages w n (after_draws (output_bits w) c.args.tape.now)) all

pub width-requires-after_bounds : goal.width-requires-after_bounds
width-requires-after_bounds g c κs within = omega (arith, c.depth-depth.ensures.depth, c.loop-l-test.true, c.loop-l.auto.l-end)

pub bounds-layers-l : goal.bounds-layers-l
bounds-layers-l g c = omega (arith, c.depth-depth.ensures.depth, c.loop-l-test.true, c.loop-l.auto.l-end, c.requires.layers.count, c.loop-l.auto.layers)

pub bounds-bounds-l : goal.bounds-bounds-l
bounds-bounds-l g c = omega (arith, c.depth-depth.ensures.depth, c.loop-l-test.true, c.loop-l.auto.l-end, c.requires.room.bounds, c.loop-l.auto.bounds)

pub next-places-requires-clause-layer : goal.next-places-requires-clause-layer
next-places-requires-clause-layer g c κs within = omega (arith, c.depth-depth.ensures.depth, c.loop-l-test.true, c.loop-l.auto.l-end)

pub next-places-requires-clause-places : goal.next-places-requires-clause-places
next-places-requires-clause-places g c κs within = c.loop-l.invariant.places

pub returns-clause-sent : goal.returns-clause-sent
returns-clause-sent g c = λ k q. c.loop-l.invariant.proved.done k (omega (arith, q, c.depth-depth.ensures.depth, c.loop-l-test.false))

pub layer_of-layer-requires-clause-layer : goal.layer_of-layer-requires-clause-layer
layer_of-layer-requires-clause-layer g c κs within = subst (λ (n : ℕ). c.loop-l.l < n) c.depth-depth.ensures.depth c.loop-l-test.true

pub layer_of-layer-requires-clause-places : goal.layer_of-layer-requires-clause-places
layer_of-layer-requires-clause-places g c κs within = c.loop-l.invariant.places

pub layer_of-layer-requires-clause-orders : goal.layer_of-layer-requires-clause-orders
layer_of-layer-requires-clause-orders g c κs within = c.requires.room.orders

pub prove_layer-requires-clause-terms : goal.prove_layer-requires-clause-terms
prove_layer-requires-clause-terms g c κs within =
    let on = c.args.given.now.on.now in
    let w = c.args.given.now.on.now.circuit.now in
    let l = c.loop-l.l in
    let h : l < depth w = subst (λ (n : ℕ). c.loop-l.l < n) c.depth-depth.ensures.depth c.loop-l-test.true in
    let layer = c.layer_of-layer.result in
    let wires = take c.width.result c.loop-l.weights in
    let below : length layer.of.values.now ≡ width_at w (l + 1) = ap length c.layer_of-layer.ensures.values ∙ values_width w on.values.now.wires (l + 1) on.widths (omega (arith, h)) in
    let here : length wires ≡ width_at w l = wires-wide (width_at w l) c.width.result c.loop-l.weights c.width.ensures (omega (arith, bits_enough (width_at w l), c.requires.room.places l (omega (arith, h)), c.requires.weights, c.loop-l.auto.weights)) in
    subst (λ n. ArePlaced (length wires) n None layer.of.terms.now) (sym below)
    (subst (λ n. ArePlaced n (width_at w (l + 1)) None layer.of.terms.now) (sym here) c.layer_of-layer.ensures.placed)

pub prove_layer-requires-clause-order : goal.prove_layer-requires-clause-order
prove_layer-requires-clause-order g c κs within =
    subst (λ ts. IsOrderOf ts c.layer_of-layer.result.of.order.now) (sym c.layer_of-layer.ensures.terms) c.layer_of-layer.ensures.order

pub prove_layer-requires-clause-places : goal.prove_layer-requires-clause-places
prove_layer-requires-clause-places g c κs within =
    let w = c.args.given.now.on.now.circuit.now in
    let l = c.loop-l.l in
    let h : l < depth w = subst (λ (n : ℕ). c.loop-l.l < n) c.depth-depth.ensures.depth c.loop-l-test.true in
    let few : c.layer_of-layer.result.bits ≡ bits_under w l = c.layer_of-layer.ensures.bits ∙ ap (λ p. p.bits) c.loop-l.invariant.places in
    omega (arith, ap (λ n. 2 ^ n) few, c.requires.room.places (l + 1) (omega (arith, h)), ap (λ (r : TableRoom). r.places) c.loop-l.invariant.room)

pub prove_layer-requires-clause-pairs : goal.prove_layer-requires-clause-pairs
prove_layer-requires-clause-pairs g c κs within =
    let w = c.args.given.now.on.now.circuit.now in
    let l = c.loop-l.l in
    let h : l < depth w = subst (λ (n : ℕ). c.loop-l.l < n) c.depth-depth.ensures.depth c.loop-l-test.true in
    omega (arith, ap length c.layer_of-layer.ensures.terms, c.requires.room.pairs l h, ap (λ (r : TableRoom). r.pairs) c.loop-l.invariant.room)

pub prove_layer-requires-clause-room : goal.prove_layer-requires-clause-room
prove_layer-requires-clause-room g c κs within =
    let w = c.args.given.now.on.now.circuit.now in
    let l = c.loop-l.l in
    let h : l < depth w = subst (λ (n : ℕ). c.loop-l.l < n) c.depth-depth.ensures.depth c.loop-l-test.true in
    let m = c.loop-l.messages in
    let b = c.loop-l.places.messages in
    let n = b + (4 * c.loop-l.places.bits + 2) - b in
    let begins : b ≡ sent_at w l = ap (λ p. p.messages) c.loop-l.invariant.places in
    let fits : b + (4 * c.loop-l.places.bits + 2) ≤ length m = omega (arith, begins, ap (λ p. p.bits) c.loop-l.invariant.places, sent_within w l h, c.requires.messages, c.loop-l.auto.messages) in
    omega (arith, length-take-le n (drop b m) (omega (arith, fits, length-drop b m)), c.layer_of-layer.ensures.bits)

pub slice_bounds-sent-count : goal.slice_bounds-sent-count
slice_bounds-sent-count g c = omega arith

pub slice_bounds-sent-start : goal.slice_bounds-sent-start
slice_bounds-sent-start g c = omega arith

pub slice_bounds-sent-end : goal.slice_bounds-sent-end
slice_bounds-sent-end g c =
    let w = c.args.given.now.on.now.circuit.now in
    let l = c.loop-l.l in
    let h : l < depth w = subst (λ (n : ℕ). c.loop-l.l < n) c.depth-depth.ensures.depth c.loop-l-test.true in
    let begins : c.loop-l.places.messages ≡ sent_at w l = ap (λ p. p.messages) c.loop-l.invariant.places in
    omega (arith, begins, ap (λ p. p.bits) c.loop-l.invariant.places, sent_within w l h, c.requires.messages, c.loop-l.auto.messages)

pub slice_bounds-wires-end : goal.slice_bounds-wires-end
slice_bounds-wires-end g c =
    let w = c.args.given.now.on.now.circuit.now in
    let l = c.loop-l.l in
    let h : l < depth w = subst (λ (n : ℕ). c.loop-l.l < n) c.depth-depth.ensures.depth c.loop-l-test.true in
    omega (arith, c.width.ensures, bits_enough (width_at w l), c.requires.room.places l (omega (arith, h)), c.requires.weights, c.loop-l.auto.weights)

pub slice_bounds-wires-end-in-loop-l : goal.slice_bounds-wires-end-in-loop-l
slice_bounds-wires-end-in-loop-l g c =
    let w = c.args.given.now.on.now.circuit.now in
    let l = c.loop-l.l in
    let h : l < depth w = subst (λ (n : ℕ). c.loop-l.l < n) c.depth-depth.ensures.depth c.loop-l-test.true in
    let fits : c.width.result ≤ length c.loop-l.weights = omega (arith, c.width.ensures, bits_enough (width_at w l), c.requires.room.places l (omega (arith, h)), c.requires.weights, c.loop-l.auto.weights) in
    sym (length-take-le c.width.result c.loop-l.weights fits)

pub offset_bounds-messages-begin : goal.offset_bounds-messages-begin
offset_bounds-messages-begin g c =
    let w = c.args.given.now.on.now.circuit.now in
    let l = c.loop-l.l in
    let h : l < depth w = subst (λ (n : ℕ). c.loop-l.l < n) c.depth-depth.ensures.depth c.loop-l-test.true in
    let begins : c.loop-l.places.messages ≡ sent_at w l = ap (λ p. p.messages) c.loop-l.invariant.places in
    let inside : c.loop-l.places.messages < length c.args.messages.now = omega (arith, begins, ap (λ p. p.bits) c.loop-l.invariant.places, sent_within w l h, c.requires.messages) in
    record { fits = times-less c.loop-l.places.messages (length c.args.messages.now) _ _ inside (omega arith) }

pub overflow_mul-count : goal.overflow_mul-count
overflow_mul-count g c =
    let h : c.loop-l.l < depth c.args.given.now.on.now.circuit.now = subst (λ (n : ℕ). c.loop-l.l < n) c.depth-depth.ensures.depth c.loop-l-test.true in
    omega (arith, (c.loop-l.invariant.within h).bits)

pub overflow_add-count : goal.overflow_add-count
overflow_add-count g c =
    let h : c.loop-l.l < depth c.args.given.now.on.now.circuit.now = subst (λ (n : ℕ). c.loop-l.l < n) c.depth-depth.ensures.depth c.loop-l-test.true in
    omega (arith, (c.loop-l.invariant.within h).bits)

pub overflow_add-sent : goal.overflow_add-sent
overflow_add-sent g c =
    let w = c.args.given.now.on.now.circuit.now in
    let h : c.loop-l.l < depth c.args.given.now.on.now.circuit.now = subst (λ (n : ℕ). c.loop-l.l < n) c.depth-depth.ensures.depth c.loop-l-test.true in
    let begins : c.loop-l.places.messages ≡ sent_at w c.loop-l.l = ap (λ p. p.messages) c.loop-l.invariant.places in
    let inside : c.loop-l.places.messages + (4 * c.loop-l.places.bits + 2) ≤ length c.args.messages.now =
    omega (arith, begins, ap (λ p. p.bits) c.loop-l.invariant.places, sent_within w c.loop-l.l h, c.requires.messages) in
    omega arith
