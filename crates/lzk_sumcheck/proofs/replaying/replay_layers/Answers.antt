use Rattle.std.proofs.Common.{◌≡◌, ◌<◌, length, sym, ap, ◌∙◌, arith, subst, slice_index_or}
use Rattle.std.proofs.lemmas.List.{get_or_default}
use Rattle.std.proofs.lemmas.Option.{slice_get-get_or}
use Rattle.lzk_layout.specs.Places.{depth, bits_under, sent_at}
use Rattle.lzk_sumcheck.specs.Script.{HasBits, zero_layer, layer_script, after_layer, after_layers}
use Rattle.lzk_sumcheck.proofs.LayerLaws.{AreReplayed, replayed_none, replayed_more, replayed_whole}
use Rattle.lzk_sumcheck.proofs.ProvingLaws.{times-less}
use Rattle.lzk_sumcheck.proofs.replaying.replay_layers.Goals as goal

pub loop-l-init : goal.loop-l-init
loop-l-init g c =
    let f = g.F.Field in
    record {
      places = c.first-places.ensures.places;
      within = λ h. c.first-places.ensures.within;
      layers = replayed_none f.ops f.coding c.args.messages.now c.args.circuit.now c.args.tape.now c.args.layers.now;
    }

pub overflow_cast-first : goal.overflow_cast-first
overflow_cast-first g c =
    let places = c.loop-l.invariant.places in
    let last = c.loop-l.invariant.within (subst (λ n. c.loop-l.l < n) c.depth-l-end.ensures.depth c.loop-l-test.true) in
    omega (arith, ap (λ p. p.factors_sent) places, ap (λ p. p.messages) places, ap (λ p. p.bits) places, last.sent, c.requires.messages)

pub overflow_cast-layer : goal.overflow_cast-layer
overflow_cast-layer g c = omega (arith, c.requires.depth, c.depth-l-end.ensures.depth, c.loop-l-test.true)

pub offset_bounds-layers-l : goal.offset_bounds-layers-l
offset_bounds-layers-l g c =
    let inside : c.loop-l.l < length c.args.layers.now = omega (arith, c.requires.depth, c.depth-l-end.ensures.depth, c.loop-l-test.true) in
    record { fits = times-less c.loop-l.l (length c.args.layers.now) _ _ inside (omega arith) }

pub bounds-layers-l : goal.bounds-layers-l
bounds-layers-l g c = omega (arith, c.requires.depth, c.depth-l-end.ensures.depth, c.loop-l-test.true, c.loop-l.auto.layers)

pub replay_layer-requires-clause-messages : goal.replay_layer-requires-clause-messages
replay_layer-requires-clause-messages g c κs within =
    let places = c.loop-l.invariant.places in
    let last = c.loop-l.invariant.within (subst (λ n. c.loop-l.l < n) c.depth-l-end.ensures.depth c.loop-l-test.true) in
    omega (arith, ap (λ p. p.factors_sent) places, ap (λ p. p.messages) places, ap (λ p. p.bits) places, last.sent, c.requires.messages)

pub next-places-requires-clause-layer : goal.next-places-requires-clause-layer
next-places-requires-clause-layer g c κs within = subst (λ n. c.loop-l.l < n) c.depth-l-end.ensures.depth c.loop-l-test.true

pub next-places-requires-clause-places : goal.next-places-requires-clause-places
next-places-requires-clause-places g c κs within = c.loop-l.invariant.places

pub returns-clause-after : goal.returns-clause-after
returns-clause-after g c =
    let f = g.F.Field in
    let all : c.loop-l.l ≡ depth c.args.circuit.now = omega (arith, c.loop-l-test.false, c.loop-l.auto.l-end, c.depth-l-end.ensures.depth) in
    c.loop-l.invariant.layers.tape ∙ ap (λ l. after_layers f.ops f.coding c.args.messages.now c.args.circuit.now l c.args.tape.now) all

pub replay_layer-requires-clause-bits : goal.replay_layer-requires-clause-bits
replay_layer-requires-clause-bits g c κs within =
    let d = zero_layer g.F.Field.ops 0 in
    let l = c.loop-l.l in
    let given = c.args.layers.now in
    let h : l < length c.loop-l.layers = omega (arith, c.requires.depth, c.depth-l-end.ensures.depth, c.loop-l-test.true) in
    let h' : l < length given = omega (arith, c.requires.depth, c.depth-l-end.ensures.depth, c.loop-l-test.true) in
    let of_old : HasBits (bits_under c.args.circuit.now l) (slice_index_or given l d) = c.requires.bits l (slice_index_or given l d) (slice_get-get_or given l d h') in
    let same : slice_index_or given l d ≡ slice_index_or c.loop-l.layers l c.index-layers-l.result =
    sym (c.loop-l.invariant.layers.rest l (omega arith)) ∙ get_or_default c.loop-l.layers l d c.index-layers-l.result h in
    let bits : bits_under c.args.circuit.now l ≡ c.loop-l.places.bits = sym (ap (λ p. p.bits) c.loop-l.invariant.places) in
    subst (λ k. HasBits k (slice_index_or c.loop-l.layers l c.index-layers-l.result)) bits (subst (HasBits (bits_under c.args.circuit.now l)) same of_old)

pub loop-l-preserved : goal.loop-l-preserved
loop-l-preserved g c =
    let f = g.F.Field in
    let e = f.coding in
    let ms = c.args.messages.now in
    let w = c.args.circuit.now in
    let l = c.loop-l.l in
    let now = c.loop-l.tape in
    let h : l < length c.loop-l.layers = omega (arith, c.requires.depth, c.depth-l-end.ensures.depth, c.loop-l-test.true) in
    let begins : c.loop-l.places.messages ≡ sent_at w l = ap (λ p. p.messages) c.loop-l.invariant.places in
    let bits : c.loop-l.places.bits ≡ bits_under w l = ap (λ p. p.bits) c.loop-l.invariant.places in
    record {
      places = c.next-places.ensures.places;
      within = c.next-places.ensures.within;
      layers = replayed_more f.ops e ms w c.args.tape.now c.args.layers.now l now c.replay_layer.new.tape c.loop-l.layers c.replay_layer.new.layer c.loop-l.invariant.layers h
          (c.replay_layer.ensures.script ∙ ap (λ v. layer_script f.ops e ms v c.loop-l.places.messages c.loop-l.places.bits now) c.version-version.ensures.version ∙ ap (λ i. layer_script f.ops e ms w.version i c.loop-l.places.bits now) begins ∙ ap (λ k. layer_script f.ops e ms w.version (sent_at w l) k now) bits)
          (c.replay_layer.ensures.after ∙ ap (λ v. after_layer f.ops e ms v c.loop-l.places.messages c.loop-l.places.bits now) c.version-version.ensures.version ∙ ap (λ i. after_layer f.ops e ms w.version i c.loop-l.places.bits now) begins ∙ ap (λ k. after_layer f.ops e ms w.version (sent_at w l) k now) bits);
    }

pub returns-clause-scripts : goal.returns-clause-scripts
returns-clause-scripts g c =
    let f = g.F.Field in
    let e = f.coding in
    let all : c.loop-l.l ≡ depth c.args.circuit.now = omega (arith, c.loop-l-test.false, c.loop-l.auto.l-end, c.depth-l-end.ensures.depth) in
    let done = subst (λ l. AreReplayed f.ops e c.args.messages.now c.args.circuit.now c.args.tape.now c.args.layers.now l c.loop-l.tape c.loop-l.layers) all c.loop-l.invariant.layers in
    replayed_whole f.ops e c.args.messages.now c.args.circuit.now c.args.tape.now c.args.layers.now c.loop-l.tape c.loop-l.layers done (omega (arith, c.requires.depth))
