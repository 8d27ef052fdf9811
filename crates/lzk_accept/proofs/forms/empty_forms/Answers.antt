use Rattle.std.proofs.Common.{◌≡◌, ◌+◌, ◌-◌, ◌<◌, length, [], ◌∷◌, sym, ap, ◌∙◌, arith, subst}
use Rattle.std.proofs.lemmas.List.{length-append}
use Rattle.std.proofs.lemmas.Result.{IfOk-from_err}
use Rattle.lzk_layout.specs.Places.{depth, factors_at}
use Rattle.lzk_layout.proofs.PlaceLaws.{few_pads_before}
use Rattle.lzk_accept.specs.Kept.{form_at, IsPlacedAt}
use Rattle.lzk_accept.proofs.KeptLaws.{layer_placed, last_placed, placed_more}
use Rattle.lzk_accept.proofs.forms.empty_forms.Goals as goal

pub overflow_add-places : goal.overflow_add-places
overflow_add-places g c =
    let few = few_pads_before c.args.circuit.now g.F.Field.ops c.depth-depth.ensures.valid c.loop-l.l c.loop-l.places (subst (λ n. c.loop-l.l < n) c.depth-depth.ensures.depth c.loop-l-test.true) c.loop-l.invariant.places in
    omega (arith, few)

pub returns-in_err-forms-clause-count : goal.returns-in_err-forms-clause-count
returns-in_err-forms-clause-count g c = IfOk-from_err _ _ c.from_residual.ensures.0

pub returns-in_err-forms-clause-places : goal.returns-in_err-forms-clause-places
returns-in_err-forms-clause-places g c = IfOk-from_err _ _ c.from_residual.ensures.0

pub loop-l-init : goal.loop-l-init
loop-l-init g c =
    record {
      places = c.first-places.ensures.places;
      above = ap (λ p. p.factors) c.first-places.ensures.places;
      count = ap length c.in_ok-forms.ensures.items;
      room = omega (arith, c.in_ok-forms.ensures.capacity);
      placed = λ i h. absurd (omega (arith, h));
    }

pub push_reserved-requires : goal.push_reserved-requires
push_reserved-requires g c = omega (arith, c.loop-l.invariant.count, c.loop-l.invariant.room, c.loop-l-test.true)

pub next-places-requires-clause-layer : goal.next-places-requires-clause-layer
next-places-requires-clause-layer g c κs within = subst (λ n. c.loop-l.l < n) c.depth-depth.ensures.depth c.loop-l-test.true

pub next-places-requires-clause-places : goal.next-places-requires-clause-places
next-places-requires-clause-places g c κs within = c.loop-l.invariant.places

pub push_reserved-requires-2 : goal.push_reserved-requires-2
push_reserved-requires-2 g c = omega (arith, c.loop-l.invariant.count, c.loop-l.invariant.room, c.loop-l.auto.l-end)

pub returns-clause-count : goal.returns-clause-count
returns-clause-count g c =
    omega (arith, ap length c.push_reserved-2.ensures.items, length-append c.loop-l.forms.items (c.empty-2.result ∷ []), c.loop-l.invariant.count, c.loop-l-test.false, c.loop-l.auto.l-end, c.depth-depth.ensures.depth)

pub loop-l-preserved : goal.loop-l-preserved
loop-l-preserved g c =
    let o = g.F.Field.ops in
    let w = c.args.circuit.now in
    let l = c.loop-l.l in
    let h : l < depth w = subst (λ n. c.loop-l.l < n) c.depth-depth.ensures.depth c.loop-l-test.true in
    let form = c.empty.result in
    let old = c.loop-l.invariant in
    let now : l ≡ l + 1 - 1 = omega arith in
    record {
      places = c.next-places.ensures.places;
      above = ap (λ p. p.factors) old.places ∙ ap (factors_at w) now;
      count = ap length c.push_reserved.ensures.items ∙ length-append c.loop-l.forms.items (form ∷ []) ∙ ap (λ n. n + 1) old.count;
      room = omega (arith, c.push_reserved.ensures.capacity, old.room);
      placed = λ i k. subst (λ xs. IsPlacedAt w i (form_at o xs i)) (sym c.push_reserved.ensures.items)
          (placed_more w o l c.loop-l.forms.items form old.count
          (layer_placed w l c.loop-l.places form h old.places (ap (λ f. f.start) c.empty.ensures) (ap (λ f. f.end) c.empty.ensures) (ap (λ f. f.above) c.empty.ensures ∙ old.above)) old.placed i k);
    }

pub returns-clause-places : goal.returns-clause-places
returns-clause-places g c i k =
    let o = g.F.Field.ops in
    let w = c.args.circuit.now in
    let l = c.loop-l.l in
    let all : l ≡ depth w = omega (arith, c.depth-depth.ensures.depth, c.loop-l-test.false, c.loop-l.auto.l-end) in
    let form = c.empty-2.result in
    let old = c.loop-l.invariant in
    subst (λ xs. IsPlacedAt w i (form_at o xs i)) (sym c.push_reserved-2.ensures.items)
    (placed_more w o l c.loop-l.forms.items form old.count
    (last_placed w l form (omega arith) (ap (λ f. f.start) c.empty-2.ensures) (ap (λ f. f.end) c.empty-2.ensures ∙ c.privates.ensures) (ap (λ f. f.above) c.empty-2.ensures ∙ old.above)) old.placed i (omega arith))
