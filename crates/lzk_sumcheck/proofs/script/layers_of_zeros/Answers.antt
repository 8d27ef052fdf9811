use Rattle.std.proofs.Common.{◌≡◌, ◌∷◌, ◌++◌, [], length, map, sym, ap, ◌∙◌, arith, subst, ◌<◌}
use Rattle.std.specs.List.{range_with_len}
use Rattle.std.proofs.lemmas.List.{length-append}
use Rattle.std.proofs.lemmas.Result.{IfOk-from_err}
use Rattle.std.proofs.lemmas.List.FromFn.{map-range_with_len_more}
use Rattle.lzk_layout.specs.Places.{depth, bits_under}
use Rattle.lzk_sumcheck.specs.Script.{zero_layer}
use Rattle.lzk_sumcheck.proofs.script.layers_of_zeros.Goals as goal

pub returns-in_err-list : goal.returns-in_err-list
returns-in_err-list g c = IfOk-from_err _ _ c.from_residual.ensures.0

pub returns-in_err-layer_of_zeros : goal.returns-in_err-layer_of_zeros
returns-in_err-layer_of_zeros g c = IfOk-from_err _ _ c.from_residual-in_err-layer_of_zeros.ensures.0

pub loop-l-init : goal.loop-l-init
loop-l-init g c =
    record {
      places = c.first-places.ensures.places;
      layers = c.in_ok-list.ensures.items;
      count = ap length c.in_ok-list.ensures.items;
      room = omega (arith, c.in_ok-list.ensures.capacity);
    }

pub push_reserved-requires : goal.push_reserved-requires
push_reserved-requires g c = omega (arith, c.loop-l.invariant.count, c.loop-l.invariant.room, c.loop-l-test.true)

pub next-places-requires-clause-layer : goal.next-places-requires-clause-layer
next-places-requires-clause-layer g c κs within = subst (λ n. c.loop-l.l < n) c.depth-depth.ensures.depth c.loop-l-test.true

pub next-places-requires-clause-places : goal.next-places-requires-clause-places
next-places-requires-clause-places g c κs within = c.loop-l.invariant.places

pub loop-l-preserved : goal.loop-l-preserved
loop-l-preserved g c =
    let o = g.F.Field.ops in
    let w = c.args.circuit.now in
    let l = c.loop-l.l in
    let old = c.loop-l.list.items in
    let same : c.in_ok-layer_of_zeros.field-0 ≡ zero_layer o (bits_under w l) = c.in_ok-layer_of_zeros.ensures ∙ ap (λ p. zero_layer o p.bits) c.loop-l.invariant.places in
    record {
      places = c.next-places.ensures.places;
      layers = c.push_reserved.ensures.items ∙ ap (λ xs. xs ++ c.in_ok-layer_of_zeros.field-0 ∷ []) c.loop-l.invariant.layers
          ∙ ap (λ x. map (λ k. zero_layer o (bits_under w k)) (range_with_len 0 l) ++ x ∷ []) same
          ∙ sym (map-range_with_len_more (λ k. zero_layer o (bits_under w k)) 0 l l (omega arith));
      count = omega (arith, ap length c.push_reserved.ensures.items, length-append old (c.in_ok-layer_of_zeros.field-0 ∷ []), c.loop-l.invariant.count);
      room = omega (arith, c.push_reserved.ensures.capacity, c.loop-l.invariant.room);
    }

pub returns : goal.returns
returns g c =
    let o = g.F.Field.ops in
    let w = c.args.circuit.now in
    let all : c.loop-l.l ≡ depth w = omega (arith, c.loop-l-test.false, c.loop-l.auto.l-end, c.depth-depth.ensures.depth) in
    c.loop-l.invariant.layers ∙ ap (λ n. map (λ k. zero_layer o (bits_under w k)) (range_with_len 0 n)) all
