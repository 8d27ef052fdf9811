use Rattle.std.proofs.Common.{◌≡◌, ◌+◌, ◌*◌, sym, ap, ◌∙◌, arith}
use Rattle.lzk_field.specs.Sums.{entry, sum_below, minus}
use Rattle.lzk_field.proofs.SumLaws.{sum-ext}
use Rattle.lzk_layout.specs.declared.places.LayerPlaces.{LayerPlaces}
use Rattle.lzk_layout.specs.Places.{bits_under, round_count, sent_at, pads_at, factors_sent_at, factors_at}
use Rattle.lzk_layout.proofs.PlaceLaws.{pads_next}
use Rattle.lzk_sumcheck.specs.Coefficients.{coefficients}
use Rattle.lzk_sumcheck.specs.Script.{layer_at}
use Rattle.lzk_accept.specs.Kept.{above_a, above_b}
use Rattle.lzk_accept.specs.Walks.{through_rounds, challenge_of}
use Rattle.lzk_accept.proofs.KeptLaws.{start_is, end_is}
use Rattle.lzk_accept.proofs.LinearLaws.{layer_is}
use Rattle.lzk_accept.proofs.linear.layer_form.Goals as goal

pub layer_of-layer-requires-clause-layer : goal.layer_of-layer-requires-clause-layer
layer_of-layer-requires-clause-layer g c κs within = c.args.turn.now.inside

pub invariant_of-rounds : goal.invariant_of-rounds
invariant_of-rounds g c =
    let t = c.args.turn.now in
    let sent = ap (λ (p : LayerPlaces). p.factors_sent) t.placed in
    record { within = omega (arith, sent, ap (λ (p : LayerPlaces). p.messages) t.placed, ap (λ (p : LayerPlaces). p.bits) t.placed, t.within.sent, t.exchange.now.count) }

pub claim_form-claim-requires-clause-room : goal.claim_form-claim-requires-clause-room
claim_form-claim-requires-clause-room g c κs within =
    let t = c.args.turn.now in
    let factors = ap (λ (p : LayerPlaces). p.factors) t.placed in
    omega (arith, factors, ap (λ (p : LayerPlaces). p.pads) t.placed, ap (λ (p : LayerPlaces). p.bits) t.placed, t.within.committed, c.requires)

pub set_factors-requires-after_bounds : goal.set_factors-requires-after_bounds
set_factors-requires-after_bounds g c κs within = omega (arith, c.args.turn.now.within.committed, c.requires, c.claim_form-claim.ensures.length)

pub returns-clause-length : goal.returns-clause-length
returns-clause-length g c = c.set_factors.ensures.length ∙ c.claim_form-claim.ensures.length

pub returns-clause-before : goal.returns-clause-before
returns-clause-before g c j h =
    let t = c.args.turn.now in
    let pads = ap (λ (p : LayerPlaces). p.pads) t.placed in
    let factors = ap (λ (p : LayerPlaces). p.factors) t.placed in
    c.set_factors.ensures.before j (omega (arith, h, factors)) ∙ c.claim_form-claim.ensures.before j (omega (arith, h, pads))

pub returns-clause-placed : goal.returns-clause-placed
returns-clause-placed g c = let at = c.args.turn.now.form_placed in record { start = at.start; end = at.end; above = at.above }

pub returns-clause-after : goal.returns-clause-after
returns-clause-after g c j h =
    let w = c.args.turn.now.exchange.now.scripted.circuit.now in
    let next = pads_next w c.args.turn.now.l c.args.turn.now.inside in
    let pads : c.args.turn.now.places.pads ≡ pads_at w c.args.turn.now.l = ap (λ (p : LayerPlaces). p.pads) c.args.turn.now.placed in
    let factors : c.args.turn.now.places.factors ≡ factors_at w c.args.turn.now.l = ap (λ (p : LayerPlaces). p.factors) c.args.turn.now.placed in
    let bits : c.args.turn.now.places.bits ≡ bits_under w c.args.turn.now.l = ap (λ (p : LayerPlaces). p.bits) c.args.turn.now.placed in
    c.set_factors.ensures.after j (omega (arith, next)) ∙ c.claim_form-claim.ensures.after j (omega (arith, next))

pub returns-clause-constraint : goal.returns-clause-constraint
returns-clause-constraint g c public =
    let f = g.F.Field in
    let o = f.ops in
    let w = c.args.turn.now.exchange.now.scripted.circuit.now in
    let s = c.args.turn.now.exchange.now.scripted.script.now in
    let ms = c.args.turn.now.exchange.now.messages.now in
    let l = c.args.turn.now.l in
    let q = coefficients o w s in
    let places = c.args.turn.now.places in
    let pads : places.pads ≡ pads_at w l = ap (λ (p : LayerPlaces). p.pads) c.args.turn.now.placed in
    let factors : places.factors ≡ factors_at w l = ap (λ (p : LayerPlaces). p.factors) c.args.turn.now.placed in
    let bits : places.bits ≡ bits_under w l = ap (λ (p : LayerPlaces). p.bits) c.args.turn.now.placed in
    let sent : places.messages ≡ sent_at w l = ap (λ (p : LayerPlaces). p.messages) c.args.turn.now.placed in
    let factors_sent : places.factors_sent ≡ factors_sent_at w l = ap (λ (p : LayerPlaces). p.factors_sent) c.args.turn.now.placed in
    let layer = c.layer_of-layer.result.now in
    let il : layer ≡ layer_at o s l = c.layer_of-layer.ensures.layer in
    let claim = c.claim_form-claim.result in
    let mid = c.claim_form-claim.new.own in
    let own = c.set_factors.new.own in
    let s0 : c.factors_of-factors.result.first ≡ entry o ms (factors_sent_at w l) = c.factors_of-factors.ensures.first ∙ ap (entry o ms) factors_sent in
    let s1 : c.factors_of-factors.result.second ≡ entry o ms (factors_sent_at w l + 1) = c.factors_of-factors.ensures.second ∙ ap (λ k. entry o ms (k + 1)) factors_sent in
    let alpha : layer.alpha ≡ (layer_at o s l).alpha = ap (λ x. x.alpha) il in
    let four : 4 * places.bits ≡ 2 * round_count w l = omega arith in
    let two : 2 * places.bits ≡ round_count w l = omega arith in
    layer_is o f.laws.ring f.coding.element w q public s ms l claim c.args.turn.now.bound own _ c.args.turn.now.inside c.args.turn.now.bounded
    (record {
      start = c.args.turn.now.form_placed.start ∙ start_is w l c.args.turn.now.inside;
      end = c.args.turn.now.form_placed.end ∙ end_is w l c.args.turn.now.inside;
      above = c.args.turn.now.form_placed.above;
      rounds = λ pad x.
          ap (λ y. through_rounds o f.coding.element (challenge_of o y) (λ k. entry o ms (sent_at w l + k)) pad x (round_count w l)) (sym il)
          ∙ ap (λ i. through_rounds o f.coding.element (challenge_of o layer) (λ k. entry o ms (i + k)) pad x (round_count w l)) (sym sent)
          ∙ ap (through_rounds o f.coding.element (challenge_of o layer) (λ k. entry o ms (places.messages + k)) pad x) (sym two)
          ∙ c.claim_form-claim.ensures.form pad x
          ∙ ap (λ n. o.plus (o.plus claim.constant (o.times claim.weight x)) (sum_below o n (λ k. o.times (entry o mid (places.pads + k)) (pad k)))) four
          ∙ ap (λ p. o.plus (o.plus claim.constant (o.times claim.weight x)) (sum_below o (2 * round_count w l) (λ k. o.times (entry o mid (p + k)) (pad k)))) pads
          ∙ ap (o.plus (o.plus claim.constant (o.times claim.weight x)))
          (sum-ext o f.laws.ring (2 * round_count w l) (λ k. o.times (entry o mid (pads_at w l + k)) (pad k)) (λ k. o.times (entry o own (pads_at w l + k)) (pad k))
          (λ k h. ap (λ y. o.times y (pad k)) (sym (c.set_factors.ensures.before (pads_at w l + k) (omega arith)))));
      d0 = ap (entry o own) (sym factors) ∙ c.set_factors.ensures.d0 ∙ ap (λ x. o.neg (o.times c.args.turn.now.bound x)) s1;
      d1 = ap (λ k. entry o own (k + 1)) (sym factors) ∙ c.set_factors.ensures.d1 ∙ ap (λ x. o.neg (o.times c.args.turn.now.bound x)) s0;
      e = ap (λ k. entry o own (k + 2)) (sym factors) ∙ c.set_factors.ensures.e;
      first = c.below_top_of-first.ensures;
      second = c.mul.ensures ∙ ap (o.times c.below_top_of-first.result) alpha;
      right = c.neg.ensures ∙ ap o.neg (c.constant_of.ensures
          ∙ ap (λ x. minus o (o.plus claim.constant (o.times claim.weight (o.plus x (o.times layer.alpha c.args.turn.now.above.second)))) (o.times c.args.turn.now.bound (o.times c.factors_of-factors.result.first c.factors_of-factors.result.second))) c.args.turn.now.above_first
          ∙ ap (λ x. minus o (o.plus claim.constant (o.times claim.weight (o.plus (above_a o w ms l) (o.times layer.alpha x)))) (o.times c.args.turn.now.bound (o.times c.factors_of-factors.result.first c.factors_of-factors.result.second))) c.args.turn.now.above_second
          ∙ ap (λ x. minus o (o.plus claim.constant (o.times claim.weight (o.plus (above_a o w ms l) (o.times x (above_b o w ms l))))) (o.times c.args.turn.now.bound (o.times c.factors_of-factors.result.first c.factors_of-factors.result.second))) alpha
          ∙ ap (λ x. minus o (o.plus claim.constant (o.times claim.weight (o.plus (above_a o w ms l) (o.times (layer_at o s l).alpha (above_b o w ms l))))) (o.times c.args.turn.now.bound (o.times x c.factors_of-factors.result.second))) s0
          ∙ ap (λ x. minus o (o.plus claim.constant (o.times claim.weight (o.plus (above_a o w ms l) (o.times (layer_at o s l).alpha (above_b o w ms l))))) (o.times c.args.turn.now.bound (o.times (entry o ms (factors_sent_at w l)) x))) s1);
    })
