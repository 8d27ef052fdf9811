use Rattle.std.proofs.Common.{◌≡◌, ℕ, length, ap, ◌∙◌, arith, add-one}
use Rattle.std.proofs.lemmas.List.{get_or_default}
use Rattle.lzk_field.specs.Sums.{entry, sum_below}
use Rattle.lzk_ligero_tableau.proofs.values.sum_of.Goals as goal

pub loop-i-init : goal.loop-i-init
loop-i-init g c = c.zero-sum.ensures

pub loop-i-preserved : goal.loop-i-preserved
loop-i-preserved g c =
    let o = g.F.Field.ops in
    let list = c.args.list.now in
    let l = c.loop-i in
    let x = c.index-list-i.result in
    rw add-one
    (c.add-sum.ensures ∙ ap (λ w. o.plus w x) l.invariant
    ∙ ap (o.plus (sum_below o l.i (λ i. entry o list i))) (c.index-list-i.is ∙ get_or_default list l.i x o.zero c.loop-i-test.true))

pub returns : goal.returns
returns g c =
    let o = g.F.Field.ops in
    let list = c.args.list.now in
    let all : c.loop-i.i ≡ length list = omega (arith, c.loop-i-test.false, c.loop-i.auto.i-end) in
    c.loop-i.invariant ∙ ap (λ (n : ℕ). sum_below o n (λ i. entry o list i)) all
