use Rattle.std.proofs.Common.{suc, ◌≡◌, ◌+◌, ◌<◌, length, refl, sym, ap, ◌∙◌, subst, arith}
use Rattle.std.proofs.lemmas.List.{length-set}
use Rattle.lzk_field.specs.Sums.{entry}
use Rattle.lzk_layout.specs.declared.places.LayerPlaces.{LayerPlaces}
use Rattle.lzk_layout.specs.Places.{depth, factors_sent_at}
use Rattle.lzk_sumcheck.specs.Coefficients.{coefficients}
use Rattle.lzk_accept.specs.Kept.{form_at, above_a, above_b, IsPlacedAt, IsConstraint}
use Rattle.lzk_accept.proofs.KeptLaws.{placed_set, end_before}
use Rattle.lzk_accept.proofs.LinearLaws.{constraints_more}
use Rattle.lzk_accept.proofs.linear.fill_layers.Goals as goal

pub loop-l-init : goal.loop-l-init
loop-l-init g c =
    let o = g.F.Field.ops in
    let w = c.args.prepared.now.exchange.scripted.circuit.now in
    record {
      forms_length = refl;
      own_length = refl;
      places = c.first-places.ensures.places;
      within = λ h. c.first-places.ensures.within;
      above_a = c.zero.ensures;
      above_b = c.zero-2.ensures;
      placed = c.requires.placed.places;
      constraints = λ public i h. absurd (omega (arith, h));
    }

pub form_of-requires-clause-place : goal.form_of-requires-clause-place
form_of-requires-clause-place g c κs within = omega (arith, c.depth-depth.ensures.depth, c.loop-l-test.true, c.loop-l.auto.l-end, c.loop-l.invariant.forms_length, c.requires.placed.count)

pub invariant_of-turn-clause-inside : goal.invariant_of-turn-clause-inside
invariant_of-turn-clause-inside g c = subst (λ n. c.loop-l.l < n) c.depth-depth.ensures.depth c.loop-l-test.true

pub invariant_of-turn-clause-placed : goal.invariant_of-turn-clause-placed
invariant_of-turn-clause-placed g c = c.loop-l.invariant.places

pub invariant_of-turn-clause-within : goal.invariant_of-turn-clause-within
invariant_of-turn-clause-within g c = c.loop-l.invariant.within (subst (λ n. c.loop-l.l < n) c.depth-depth.ensures.depth c.loop-l-test.true)

pub invariant_of-turn-clause-above_first : goal.invariant_of-turn-clause-above_first
invariant_of-turn-clause-above_first g c = c.loop-l.invariant.above_a

pub invariant_of-turn-clause-above_second : goal.invariant_of-turn-clause-above_second
invariant_of-turn-clause-above_second g c = c.loop-l.invariant.above_b

pub layer_form-form-requires-after_bounds : goal.layer_form-form-requires-after_bounds
layer_form-form-requires-after_bounds g c κs within = c.loop-l.invariant.own_length ∙ c.requires.placed.own

pub set_form-requires-clause-place : goal.set_form-requires-clause-place
set_form-requires-clause-place g c κs within = omega (arith, c.depth-depth.ensures.depth, c.loop-l-test.true, c.loop-l.auto.l-end, c.loop-l.invariant.forms_length, c.requires.placed.count)

pub next-places-requires-clause-layer : goal.next-places-requires-clause-layer
next-places-requires-clause-layer g c κs within = subst (λ n. c.loop-l.l < n) c.depth-depth.ensures.depth c.loop-l-test.true

pub next-places-requires-clause-places : goal.next-places-requires-clause-places
next-places-requires-clause-places g c κs within = c.loop-l.invariant.places

pub returns-clause-forms_length : goal.returns-clause-forms_length
returns-clause-forms_length g c = c.loop-l.invariant.forms_length

pub returns-clause-own_length : goal.returns-clause-own_length
returns-clause-own_length g c = c.loop-l.invariant.own_length

pub returns-clause-above_a : goal.returns-clause-above_a
returns-clause-above_a g c =
    let e = c.args.prepared.now.exchange in
    let w = e.scripted.circuit.now in
    let all : c.loop-l.l ≡ depth w = omega (arith, c.depth-depth.ensures.depth, c.loop-l-test.false, c.loop-l.auto.l-end) in
    c.loop-l.invariant.above_a ∙ ap (above_a g.F.Field.ops w e.messages.now) all

pub returns-clause-above_b : goal.returns-clause-above_b
returns-clause-above_b g c =
    let e = c.args.prepared.now.exchange in
    let w = e.scripted.circuit.now in
    let all : c.loop-l.l ≡ depth w = omega (arith, c.depth-depth.ensures.depth, c.loop-l-test.false, c.loop-l.auto.l-end) in
    c.loop-l.invariant.above_b ∙ ap (above_b g.F.Field.ops w e.messages.now) all

pub returns-clause-constraints : goal.returns-clause-constraints
returns-clause-constraints g c public i h = c.loop-l.invariant.constraints public i (omega (arith, h, c.depth-depth.ensures.depth, c.loop-l-test.false, c.loop-l.auto.l-end))

pub invariant_of-turn-clause-bounded : goal.invariant_of-turn-clause-bounded
invariant_of-turn-clause-bounded g c =
    let l = c.loop-l.l in
    let h : l < depth c.args.prepared.now.exchange.scripted.circuit.now = subst (λ n. c.loop-l.l < n) c.depth-depth.ensures.depth c.loop-l-test.true in
    c.entry_at-bound.ensures ∙ c.args.prepared.now.are.each l h

pub invariant_of-turn-clause-form_placed : goal.invariant_of-turn-clause-form_placed
invariant_of-turn-clause-form_placed g c =
    let w = c.args.prepared.now.exchange.scripted.circuit.now in
    let l = c.loop-l.l in
    let h : l < depth w = subst (λ n. c.loop-l.l < n) c.depth-depth.ensures.depth c.loop-l-test.true in
    subst (IsPlacedAt w l) (sym c.form_of.ensures) (c.loop-l.invariant.placed l (omega arith))

pub loop-l-preserved : goal.loop-l-preserved
loop-l-preserved g c =
    let f = g.F.Field in
    let o = f.ops in
    let w = c.args.prepared.now.exchange.scripted.circuit.now in
    let s = c.args.prepared.now.exchange.scripted.script.now in
    let ms = c.args.prepared.now.exchange.messages.now in
    let q = coefficients o w s in
    let l = c.loop-l.l in
    let h : l < depth w = subst (λ n. c.loop-l.l < n) c.depth-depth.ensures.depth c.loop-l-test.true in
    let inv = c.loop-l.invariant in
    let forms = c.loop-l.forms in
    let form = c.layer_form-form.result in
    let own = c.layer_form-form.new.own in
    let inside : l < length forms = omega (arith, inv.forms_length, c.requires.placed.count) in
    let sent : c.loop-l.places.factors_sent ≡ factors_sent_at w l = ap (λ (p : LayerPlaces). p.factors_sent) inv.places in
    let next : suc l ≡ l + 1 = omega arith in
    record {
      forms_length = ap length c.set_form.ensures ∙ length-set forms l form ∙ inv.forms_length;
      own_length = c.layer_form-form.ensures.length ∙ inv.own_length;
      places = c.next-places.ensures.places;
      within = c.next-places.ensures.within;
      above_a = c.factors_of-above.ensures.first ∙ ap (entry o ms) sent ∙ ap (above_a o w ms) next;
      above_b = c.factors_of-above.ensures.second ∙ ap (λ k. entry o ms (k + 1)) sent ∙ ap (above_b o w ms) next;
      placed = λ i k. subst (λ fs. IsPlacedAt w i (form_at o fs i)) (sym c.set_form.ensures) (placed_set w o l forms form inside c.layer_form-form.ensures.placed i (inv.placed i k));
      constraints = λ public i k. subst (λ fs. IsConstraint o f.coding.element w q public s ms i own (form_at o fs i)) (sym c.set_form.ensures)
          (constraints_more o f.laws.ring f.coding.element w q public s ms l c.loop-l.own own forms form inside (omega arith) (λ i m. inv.placed i (omega arith))
          (λ i m j a b. c.layer_form-form.ensures.before j (omega (arith, end_before w i l m (omega arith))))
          (c.layer_form-form.ensures.constraint public) (inv.constraints public) i k);
    }

pub returns-clause-placed : goal.returns-clause-placed
returns-clause-placed g c =
    let inv = c.loop-l.invariant in
    record { count = inv.forms_length ∙ c.requires.placed.count; own = inv.own_length ∙ c.requires.placed.own; places = inv.placed }
