use Rattle.std.proofs.Common.{◌≡◌, length, ap, ◌∙◌, arith, add-one}
use Rattle.std.proofs.lemmas.List.{get_or_default}
use Rattle.lzk_field.specs.Sums.{entry, sum_below}
use Rattle.lzk_mle.specs.Multilinear.{eq}
use Rattle.lzk_residual.proofs.inputs.extension_of.Goals as goal

pub loop-k-init : goal.loop-k-init
loop-k-init g c = c.zero-total.ensures

pub overflow_cast-k : goal.overflow_cast-k
overflow_cast-k g c = omega (arith, c.loop-k-test.true, c.requires.few)

pub offset_bounds-values-k : goal.offset_bounds-values-k
offset_bounds-values-k g c = omega (arith, c.loop-k-test.true)

pub bounds-values-k : goal.bounds-values-k
bounds-values-k g c = c.loop-k-test.true

pub loop-k-preserved : goal.loop-k-preserved
loop-k-preserved g c =
    let o = g.F.Field.ops in
    let values = c.args.values.now in
    let k = c.loop-k.k in
    let x = c.index-values-k.result in
    let here : x ≡ entry o values k = c.index-values-k.is ∙ get_or_default values k x o.zero c.loop-k-test.true in
    rw add-one (c.add-total.ensures ∙ ap (λ y. o.plus y c.mul.result) c.loop-k.invariant
    ∙ ap (o.plus (sum_below o k (λ i. o.times (eq o i c.args.r.now) (entry o values i)))) (c.mul.ensures ∙ ap (λ y. o.times y x) c.eq_of.ensures ∙ ap (o.times (eq o k c.args.r.now)) here))

pub returns : goal.returns
returns g c =
    let o = g.F.Field.ops in
    let all : c.loop-k.k ≡ length c.args.values.now = omega (arith, c.loop-k-test.false, c.loop-k.auto.k-end) in
    c.loop-k.invariant ∙ ap (λ n. sum_below o n (λ i. o.times (eq o i c.args.r.now) (entry o c.args.values.now i))) all
