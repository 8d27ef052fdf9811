use Rattle.std.proofs.Common.{◌+◌, ◌/◌, sym, ap, ◌∙◌, arith, drop}
use Rattle.std.proofs.lemmas.List.{drop_all}
use Rattle.lzk_field.proofs.RingBasics.{one_times}
use Rattle.lzk_mle.specs.Multilinear.{eq}
use Rattle.lzk_residual.proofs.BoundLaws.{eq_step}
use Rattle.lzk_residual.proofs.bound.eq_of.Goals as goal

pub loop-j-init : goal.loop-j-init
loop-j-init g c =
    let o = g.F.Field.ops in
    let all = eq o c.args.number c.args.r.now in
    ap (λ x. o.times x all) c.one-product.ensures ∙ one_times o g.F.Field.laws.ring all

pub offset_bounds-r-j : goal.offset_bounds-r-j
offset_bounds-r-j g c = omega (arith, c.loop-j-test.true)

pub bounds-r-j : goal.bounds-r-j
bounds-r-j g c = c.loop-j-test.true

pub returns : goal.returns
returns g c =
    let o = g.F.Field.ops in
    let l = c.loop-j in
    sym (ap (λ xs. o.times l.product (eq o l.rest xs)) (drop_all l.j c.args.r.now c.loop-j-test.false) ∙ g.F.Field.laws.ring.times_one l.product) ∙ l.invariant

pub loop-j-preserved : goal.loop-j-preserved
loop-j-preserved g c =
    let o = g.F.Field.ops in
    let l = c.loop-j in
    let xs = c.args.r.now in
    let x = c.index-r-j.result in
    ap (λ y. o.times y (eq o (l.rest / 2) (drop (l.j + 1) xs))) (c.mul-product.ensures ∙ ap (o.times l.product) c.agreement.ensures)
    ∙ eq_step o g.F.Field.laws.ring xs l.j l.rest x l.product (eq o c.args.number xs) (omega arith) c.index-r-j.is l.invariant
