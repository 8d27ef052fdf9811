use Rattle.std.proofs.Common.{◌≡◌, ◌+◌, ◌*◌, ◌-◌, ◌≤◌, suc, refl, sym, ap, ◌∙◌, subst, arith}
use Rattle.lzk_field.specs.Sums.{entry, sum_below, minus}
use Rattle.lzk_accept.specs.Walks.{challenge_of}
use Rattle.lzk_accept.proofs.RoundForms.{IsStep, IsBack, Back, back_first, back_step, back_whole}
use Rattle.lzk_accept.proofs.rounds.claim_form.Goals as goal

pub loop-m-init : goal.loop-m-init
loop-m-init g c =
    let f = g.F.Field in
    let o = f.ops in
    let r = c.args.rounds.now in
    let own = c.args.own.now in
    let total = 2 * r.bits in
    let back = IsBack o f.laws.ring f.coding.element (challenge_of o r.layer.now) (λ k. entry o r.messages.now (r.sent + k)) own c.args.at total total in
    let none : 0 ≡ 4 * r.bits - 2 * total = omega arith in
    let first : back 0 o.zero o.one = back_first o f.laws.ring f.coding.element (challenge_of o r.layer.now) (λ k. entry o r.messages.now (r.sent + k)) own c.args.at total in
    record {
      length = refl;
      before = λ k h. refl;
      after = λ k h. refl;
      back = subst (λ n. back n c.zero.result c.one.result) none (subst (λ x. back 0 x c.one.result) (sym c.zero.ensures) (subst (back 0 o.zero) (sym c.one.ensures) first));
    }

pub overflow_mul-i : goal.overflow_mul-i
overflow_mul-i g c = omega (arith, c.loop-m-test.true, c.loop-m.auto.m, c.args.rounds.now.within)

pub overflow_add-i : goal.overflow_add-i
overflow_add-i g c = omega (arith, c.loop-m-test.true, c.loop-m.auto.m, c.args.rounds.now.within)

pub overflow_add-i-in-loop-m : goal.overflow_add-i-in-loop-m
overflow_add-i-in-loop-m g c = omega (arith, c.loop-m-test.true, c.loop-m.auto.m, c.args.rounds.now.within)

pub overflow_mul-k : goal.overflow_mul-k
overflow_mul-k g c = omega (arith, c.loop-m-test.true, c.loop-m.auto.m, c.requires.room)

pub overflow_add-k : goal.overflow_add-k
overflow_add-k g c = omega (arith, c.loop-m-test.true, c.loop-m.auto.m, c.requires.room)

pub round_back-claim-requires-after_bounds : goal.round_back-claim-requires-after_bounds
round_back-claim-requires-after_bounds g c κs within = omega (arith, c.loop-m-test.true, c.loop-m.auto.m, c.requires.room, c.loop-m.invariant.length)

pub loop-m-preserved : goal.loop-m-preserved
loop-m-preserved g c =
    let f = g.F.Field in
    let o = f.ops in
    let rounds = c.args.rounds.now in
    let layer = rounds.layer.now in
    let ms = rounds.messages.now in
    let start = rounds.sent in
    let at = c.args.at in
    let total = 2 * rounds.bits in
    let m = c.loop-m.m in
    let p = m - 1 in
    let n = 4 * rounds.bits - 2 * m in
    let few : m ≤ total = c.loop-m.auto.m in
    let again : m ≡ suc p = omega (arith, c.loop-m-test.true) in
    let more : suc (suc n) ≡ 4 * rounds.bits - 2 * p = omega (arith, c.loop-m-test.true, few) in
    let old = c.loop-m.own in
    let new = c.round_back-claim.new.own in
    let before = c.loop-m.claim in
    let after = c.round_back-claim.result in
    let s = c.shares-shares.result in
    let inv = c.loop-m.invariant in
    let e = c.round_back-claim.ensures in
    let step : IsStep o f.laws.ring f.coding.element s (entry o ms (start + 2 * p)) (entry o ms (start + 2 * p + 1)) old (at + 2 * p) before new after =
    record {
      first = e.first;
      second = e.second;
      rest = e.after;
      weight = e.weight;
      constant = e.constant ∙ ap (λ x. o.plus before.constant (o.times before.weight (o.plus (o.times (minus o s.first s.second) x) (o.times s.third c.entry_at-p2.result)))) c.entry_at-p0.ensures
          ∙ ap (λ x. o.plus before.constant (o.times before.weight (o.plus (o.times (minus o s.first s.second) (entry o ms (start + 2 * p))) (o.times s.third x)))) c.entry_at-p2.ensures;
    } in
    record {
      length = e.length ∙ inv.length;
      before = λ k h. e.before k (omega (arith, h)) ∙ inv.before k h;
      after = λ k h. e.after k (omega (arith, h, c.loop-m-test.true, few)) ∙ inv.after k h;
      back = subst (λ k. Back o f.laws.ring f.coding.element layer ms start at total new p k after) more
          (back_step o f.laws.ring f.coding.element layer ms start at total old new p n (at + 2 * p) (start + 2 * p) c.round_challenge.result s before after refl refl (sym c.round_challenge.ensures) c.shares-shares.ensures
          (subst (λ k. Back o f.laws.ring f.coding.element layer ms start at total old k n before) again inv.back) step);
    }

pub returns-clause-length : goal.returns-clause-length
returns-clause-length g c = c.loop-m.invariant.length

pub returns-clause-before : goal.returns-clause-before
returns-clause-before g c = c.loop-m.invariant.before

pub returns-clause-after : goal.returns-clause-after
returns-clause-after g c = c.loop-m.invariant.after

pub returns-clause-form : goal.returns-clause-form
returns-clause-form g c pad x =
    let f = g.F.Field in
    let o = f.ops in
    let rounds = c.args.rounds.now in
    let none : c.loop-m.m ≡ 0 = omega (arith, c.loop-m-test.false) in
    let own = c.loop-m.own in
    let four : 2 * (2 * rounds.bits) ≡ 4 * rounds.bits = omega arith in
    back_whole o f.laws.ring f.coding.element rounds.layer.now rounds.messages.now rounds.sent c.args.at (2 * rounds.bits) own c.loop-m.m (4 * rounds.bits - 2 * c.loop-m.m) c.loop-m.claim none (omega (arith, none)) c.loop-m.invariant.back pad x
    ∙ ap (λ n. o.plus (o.plus c.loop-m.claim.constant (o.times c.loop-m.claim.weight x)) (sum_below o n (λ k. o.times (entry o own (c.args.at + k)) (pad k)))) four
