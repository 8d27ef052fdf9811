use Rattle.std.proofs.Common.{◌≡◌, ◌<◌, ℕ, length, refl, ap, ◌∙◌, arith}
use Rattle.std.proofs.lemmas.List.{get_or_default, get_or-set_other, length-set}
use Rattle.lzk_field.specs.Sums.{entry}
use Rattle.lzk_sumcheck.proofs.Filled.{filled_more}
use Rattle.lzk_sumcheck.proofs.ProvingLaws.{times-less}
use Rattle.lzk_ligero_answers.proofs.quadratic.add_product.Goals as goal

pub loop-k-init : goal.loop-k-init
loop-k-init g c = (refl, λ k h. absurd (omega (arith, h)), λ k h. refl)

pub loop-k-preserved : goal.loop-k-preserved
loop-k-preserved g c =
    let o = g.F.Field.ops in
    let l = c.loop-k in
    let xs = l.answer in
    let old = c.args.answer.now in
    let x = c.add.result in
    let within : l.k < length xs = omega (arith, c.loop-k-test.true, l.invariant.0) in
    let own : c.index-answer-k.result ≡ entry o old l.k = c.index-answer-k.is ∙ get_or_default xs l.k c.index-answer-k.result o.zero within ∙ l.invariant.2 l.k (omega arith) in
    let p : c.index-x-k.result ≡ entry o c.args.x.now l.k = c.index-x-k.is ∙ get_or_default c.args.x.now l.k c.index-x-k.result o.zero (omega (arith, c.loop-k-test.true, c.requires.x)) in
    let q : c.index-y-k.result ≡ entry o c.args.y.now l.k = c.index-y-k.is ∙ get_or_default c.args.y.now l.k c.index-y-k.result o.zero (omega (arith, c.loop-k-test.true, c.requires.y)) in
    let f : ℕ → g.row.F.Denot = λ k. o.plus (entry o old k) (o.times c.args.by (o.times (entry o c.args.x.now k) (entry o c.args.y.now k))) in
    let is : x ≡ f l.k = c.add.ensures ∙ ap (λ w. o.plus w c.mul-in-loop-k.result) own
    ∙ ap (o.plus (entry o old l.k)) (c.mul-in-loop-k.ensures ∙ ap (o.times c.args.by) (c.mul.ensures ∙ ap (λ w. o.times w c.index-y-k.result) p ∙ ap (o.times (entry o c.args.x.now l.k)) q)) in (
      length-set xs l.k x ∙ l.invariant.0,
      filled_more o.zero f l.k xs x within is l.invariant.1,
      λ k h. get_or-set_other xs l.k k x o.zero (λ e. omega (arith, e, h)) ∙ l.invariant.2 k (omega (arith, h)),
    )

pub returns-clause-length : goal.returns-clause-length
returns-clause-length g c = c.loop-k.invariant.0

pub returns-clause-entries : goal.returns-clause-entries
returns-clause-entries g c = λ k h. c.loop-k.invariant.1 k (omega (arith, h, c.loop-k-test.false, c.loop-k.invariant.0))

pub offset_bounds-answer-k : goal.offset_bounds-answer-k
offset_bounds-answer-k g c = record { fits = times-less c.loop-k.k (length c.args.answer.now) _ _ c.loop-k-test.true (omega arith) }

pub bounds-answer-k : goal.bounds-answer-k
bounds-answer-k g c = omega (arith, c.loop-k-test.true, c.loop-k.auto.answer)

pub offset_bounds-answer-k-in-loop-k : goal.offset_bounds-answer-k-in-loop-k
offset_bounds-answer-k-in-loop-k g c = record { fits = times-less c.loop-k.k (length c.args.answer.now) _ _ c.loop-k-test.true (omega arith) }

pub bounds-answer-k-in-loop-k : goal.bounds-answer-k-in-loop-k
bounds-answer-k-in-loop-k g c = omega (arith, c.loop-k-test.true, c.loop-k.auto.answer)

pub offset_bounds-x-k : goal.offset_bounds-x-k
offset_bounds-x-k g c = omega (arith, c.loop-k-test.true, c.requires.x)

pub bounds-x-k : goal.bounds-x-k
bounds-x-k g c = omega (arith, c.loop-k-test.true, c.requires.x)

pub offset_bounds-y-k : goal.offset_bounds-y-k
offset_bounds-y-k g c = omega (arith, c.loop-k-test.true, c.requires.y)

pub bounds-y-k : goal.bounds-y-k
bounds-y-k g c = omega (arith, c.loop-k-test.true, c.requires.y)
