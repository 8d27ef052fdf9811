use Rattle.std.proofs.Common.{ℕ, length, refl, ap, ◌∙◌, arith}
use Rattle.std.proofs.lemmas.List.{length-set}
use Rattle.lzk_field.specs.Sums.{entry}
use Rattle.lzk_sumcheck.proofs.Filled.{filled_whole, filled_more}
use Rattle.lzk_sumcheck.proofs.ProvingLaws.{times-less}
use Rattle.lzk_sumcheck_rounds.proofs.weights.set_weights.Goals as goal

pub returns : goal.returns
returns g c =
    let o = g.F.Field.ops in
    let f = λ (k : ℕ). o.plus (entry o c.args.first.now k) (o.times c.args.alpha (entry o c.args.second.now k)) in
    let n = c.loop-g.invariant.length in
    filled_whole o.zero f (length c.args.weights.now) c.loop-g.weights n (λ k h. c.loop-g.invariant.filled k (omega (arith, h, n, c.loop-g-test.false)))

pub loop-g-init : goal.loop-g-init
loop-g-init g c = record { length = refl; filled = λ k h. absurd (omega (arith, h)) }

pub loop-g-preserved : goal.loop-g-preserved
loop-g-preserved g c =
    let o = g.F.Field.ops in
    let l = c.loop-g in
    let f = λ (k : ℕ). o.plus (entry o c.args.first.now k) (o.times c.args.alpha (entry o c.args.second.now k)) in
    let x = c.plus_product.result in
    let is = c.plus_product.ensures ∙ ap (λ w. o.plus w (o.times c.args.alpha c.entry_at-in-loop-g.result)) c.entry_at.ensures
    ∙ ap (λ w. o.plus (entry o c.args.first.now l.g) (o.times c.args.alpha w)) c.entry_at-in-loop-g.ensures in
    record {
      length = length-set l.weights l.g x ∙ l.invariant.length;
      filled = filled_more o.zero f l.g l.weights x (omega (arith, c.loop-g-test.true, l.invariant.length)) is l.invariant.filled;
    }

pub offset_bounds-weights-g : goal.offset_bounds-weights-g
offset_bounds-weights-g g c = record { fits = times-less c.loop-g.g (length c.args.weights.now) _ _ c.loop-g-test.true (omega arith) }

pub bounds-weights-g : goal.bounds-weights-g
bounds-weights-g g c = omega (arith, c.loop-g-test.true, c.loop-g.auto.weights)
