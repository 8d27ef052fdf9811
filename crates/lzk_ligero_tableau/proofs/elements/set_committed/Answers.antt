use Rattle.std.proofs.Common.{◌≡◌, ◌+◌, ◌-◌, ◌*◌, ◌<◌, ◌≤◌, ℕ, List, [], ◌∷◌, ◌++◌, length, length-append, length-drop, take, drop, refl, sym, ap, ◌∙◌, arith, mul-le-mul_right}
use Rattle.std.proofs.lemmas.List.{length-take-le}
use Rattle.std.specs.List.{flat_map, range_with_len}
use Rattle.lzk_field.specs.Sums.{entry}
use Rattle.lzk_layout.specs.Places.{depth, bits_under, sent_at, pads_at}
use Rattle.lzk_layout.specs.Sizes.{committed_count}
use Rattle.lzk_layout.proofs.PlaceLaws.{pads_next, pads_last, pads_within, sent_within}
use Rattle.lzk_ligero_tableau.specs.Tableau.{layer_pads}
use Rattle.lzk_ligero_tableau.proofs.CommittedLaws.{layer_is, layer_more, list_whole, behind_parts, inputs_begun, inputs_zeros}
use Rattle.lzk_ligero_tableau.proofs.elements.set_committed.Goals as goal

pub loop-l-init : goal.loop-l-init
loop-l-init g c =
    let o = g.F.Field.ops in
    let circuit = c.args.secrets.now.circuit.now in
    let inputs = c.copy_from_slice.new.self in
    let rest = c.split_at_mut-inputs.result.1.now in
    let own : length inputs ≡ length c.args.secrets.now.private.now = ap length c.copy_from_slice.ensures.after in
    let begin : length c.args.secrets.now.private.now ≡ pads_at circuit 0 = omega (arith, c.args.secrets.now.inputs) in
    record {
      places = c.first-places.ensures.places;
      length = length-append inputs rest ∙ omega (arith, own, c.split_at_mut-inputs.ensures.back_len, c.clear.ensures.length, c.requires.room, c.args.secrets.now.inputs);
      begun = λ word are. inputs_begun inputs rest c.args.secrets.now.private.now (pads_at circuit 0) c.copy_from_slice.ensures.after begin;
      zeros = λ j h. inputs_zeros o.zero c.clear.new.list inputs rest (length c.args.secrets.now.private.now) own c.split_at_mut-inputs.ensures.back c.clear.ensures.entries j (omega (arith, begin, h));
    }

pub part-requires-after_bounds : goal.part-requires-after_bounds
part-requires-after_bounds g c =
    let circuit = c.args.secrets.now.circuit.now in
    let l = c.loop-l.l in
    let below : l < depth circuit = omega (arith, c.depth-l-end.ensures.depth, c.loop-l-test.true) in
    let bits : c.loop-l.places.bits ≡ bits_under circuit l = ap (λ q. q.bits) c.loop-l.invariant.places in
    let messages : c.loop-l.places.messages ≡ sent_at circuit l = ap (λ q. q.messages) c.loop-l.invariant.places in
    omega (arith, bits, messages, sent_within circuit l below, c.args.secrets.now.sent)

pub loop-l-preserved : goal.loop-l-preserved
loop-l-preserved g c =
    let f = g.F.Field in
    let o = f.ops in
    let e = f.coding in
    let circuit = c.args.secrets.now.circuit.now in
    let l = c.loop-l.l in
    let list = c.loop-l.list in
    let at = c.loop-l.places.pads in
    let begin = c.loop-l.places.messages in
    let count = 4 * c.loop-l.places.bits + 2 in
    let n = at + count + 1 - at in
    let same : n ≡ count + 1 = omega arith in
    let front = take at list in
    let rest = drop at list in
    let later = drop n rest in
    let own = c.set_layer.new.out in
    let part = c.part.result.now in
    let below : l < depth circuit = omega (arith, c.depth-l-end.ensures.depth, c.loop-l-test.true) in
    let bits : c.loop-l.places.bits ≡ bits_under circuit l = ap (λ q. q.bits) c.loop-l.invariant.places in
    let pads : at ≡ pads_at circuit l = ap (λ q. q.pads) c.loop-l.invariant.places in
    let messages : begin ≡ sent_at circuit l = ap (λ q. q.messages) c.loop-l.invariant.places in
    let layer : (xs : List g.row.F.Denot) → List g.row.F.Denot = λ xs. xs ++ o.times (entry o xs (length xs - 2)) (entry o xs (length xs - 1)) ∷ [] in
    let fits : at + count + 1 ≤ length list = omega (arith, bits, pads, pads_within circuit l below, c.loop-l.invariant.length, c.requires.room) in
    let own_size : length own ≡ count + 1 = c.set_layer.auto.out ∙ length-take-le n rest (omega (arith, fits, same, length-drop at list)) ∙ same in
    let front_size : length front ≡ at = length-take-le at list (omega (arith, fits)) in
    let next : pads_at circuit (l + 1) ≡ at + length own = omega (arith, pads_next circuit l below, own_size, bits, pads) in
    record {
      places = c.next-places.ensures.places;
      length = length-append front (own ++ later) ∙ omega (arith, length-append own later, front_size, own_size, length-drop n rest, length-drop at list, same, fits, c.loop-l.invariant.length);
      begun = λ word are.
          layer_more o e circuit c.args.secrets.now.private.now word list front own later l (l + 1) at (omega arith) refl front_size
          (layer_is o e circuit c.args.secrets.now.private.now word c.args.secrets.now.pads.now own l begin count are messages (omega (arith, bits)) (omega (arith, bits, messages, sent_within circuit l below))
          (c.set_layer.ensures ∙ ap layer c.part.ensures.part))
          (ap (λ m. take m list) pads ∙ c.loop-l.invariant.begun word are) (pads_at circuit (l + 1)) next;
      zeros = λ j h.
          behind_parts o.zero list front own later rest at (count + 1) j front_size own_size refl (ap (λ k. drop k rest) same) (omega (arith, next, own_size, h))
          ∙ c.loop-l.invariant.zeros j (omega (arith, next, pads, h));
    }

pub returns-clause-entries : goal.returns-clause-entries
returns-clause-entries g c =
    let f = g.F.Field in
    let o = f.ops in
    let e = f.coding in
    let circuit = c.args.secrets.now.circuit.now in
    let end : c.loop-l.l ≡ depth circuit = omega (arith, c.depth-l-end.ensures.depth, c.loop-l-test.false, c.loop-l.auto.l-end) in
    let all : pads_at circuit c.loop-l.l ≡ committed_count circuit = ap (pads_at circuit) end ∙ pads_last circuit in
    λ word are.
    list_whole o e circuit c.args.secrets.now.private.now word c.loop-l.list
    (ap (λ m. take m c.loop-l.list) (sym all) ∙ c.loop-l.invariant.begun word are ∙ ap (λ m. c.args.secrets.now.private.now ++ flat_map (layer_pads o e circuit c.args.secrets.now.private.now word) (range_with_len 0 m)) end)
    (omega (arith, c.requires.room, c.loop-l.invariant.length)) (λ j h. c.loop-l.invariant.zeros j (omega (arith, all, h)))

pub set_layer-requires-clause-two : goal.set_layer-requires-clause-two
set_layer-requires-clause-two g c κs within = omega (arith, c.part.ensures.length)

pub returns-clause-length : goal.returns-clause-length
returns-clause-length g c = c.loop-l.invariant.length

pub set_layer-requires-clause-room : goal.set_layer-requires-clause-room
set_layer-requires-clause-room g c κs within =
    let circuit = c.args.secrets.now.circuit.now in
    let l = c.loop-l.l in
    let below : l < depth circuit = omega (arith, c.depth-l-end.ensures.depth, c.loop-l-test.true) in
    let bits : c.loop-l.places.bits ≡ bits_under circuit l = ap (λ q. q.bits) c.loop-l.invariant.places in
    let pads : c.loop-l.places.pads ≡ pads_at circuit l = ap (λ q. q.pads) c.loop-l.invariant.places in
    let list = c.loop-l.list in
    let at = c.loop-l.places.pads in
    let count = 4 * c.loop-l.places.bits + 2 in
    let fits : at + count + 1 ≤ length list = omega (arith, bits, pads, pads_within circuit l below, c.loop-l.invariant.length, c.requires.room) in
    omega (arith, c.part.ensures.length, length-take-le (at + count + 1 - at) (drop at list) (omega (arith, fits, length-drop at list)))

-- where a place is within, its number of bytes is too
bytes-within : (l n s m : ℕ) → l < n → n * s < m → l * s < m
bytes-within l n s m h b = omega (arith, b, mul-le-mul_right {m = l} {n = n} s (omega (arith, h)))

pub offset_bounds-list-at : goal.offset_bounds-list-at
offset_bounds-list-at g c =
    let circuit = c.args.secrets.now.circuit.now in
    let l = c.loop-l.l in
    let below : l < depth circuit = omega (arith, c.depth-l-end.ensures.depth, c.loop-l-test.true) in
    let bits : c.loop-l.places.bits ≡ bits_under circuit l = ap (λ q. q.bits) c.loop-l.invariant.places in
    let pads : c.loop-l.places.pads ≡ pads_at circuit l = ap (λ q. q.pads) c.loop-l.invariant.places in
    let inside : c.loop-l.places.pads < length c.args.list.now = omega (arith, bits, pads, pads_within circuit l below, c.requires.room) in
    record { fits = bytes-within c.loop-l.places.pads (length c.args.list.now) _ _ inside (omega arith) }

pub slice_bounds-own-count : goal.slice_bounds-own-count
slice_bounds-own-count g c = omega arith

pub slice_bounds-own-start : goal.slice_bounds-own-start
slice_bounds-own-start g c = omega arith

pub slice_bounds-own-end : goal.slice_bounds-own-end
slice_bounds-own-end g c =
    let circuit = c.args.secrets.now.circuit.now in
    let l = c.loop-l.l in
    let below : l < depth circuit = omega (arith, c.depth-l-end.ensures.depth, c.loop-l-test.true) in
    let bits : c.loop-l.places.bits ≡ bits_under circuit l = ap (λ q. q.bits) c.loop-l.invariant.places in
    let pads : c.loop-l.places.pads ≡ pads_at circuit l = ap (λ q. q.pads) c.loop-l.invariant.places in
    omega (arith, bits, pads, pads_within circuit l below, c.loop-l.invariant.length, c.requires.room)
