use Rattle.std.proofs.Common.{◌<◌, ◌+◌, length, drop, ap, ◌∙◌, sym, arith, ◌∷◌}
use Rattle.std.proofs.lemmas.List.{drop_more, drop_all}
use Rattle.lzk_mle.specs.Multilinear.{eq}
use Rattle.lzk_sumcheck.specs.Rounds.{every_other}
use Rattle.lzk_sumcheck.specs.Points.{point}
use Rattle.lzk_sumcheck.proofs.PointLaws.{part_length, eq-step}
use Rattle.lzk_plain.proofs.plain.eq_part.Goals as goal

pub loop-j-preserved : goal.loop-j-preserved
loop-j-preserved g c =
    let m = g.F.Field in
    let o = m.ops in
    let xs = every_other c.args.a (point o c.args.on.now.bits c.args.on.now.bound.now c.args.on.now.t c.args.on.now.z) in
    let j = c.loop-j.j in
    let l : j < length xs = omega (arith, part_length o c.args.a c.args.on.now.bits c.args.on.now.bound.now c.args.on.now.t c.args.on.now.z c.args.on.now.free) in
    let front = drop_more xs j o.zero l ∙ ap (λ x. x ∷ drop (j + 1) xs) (sym c.variable_of-x.ensures) in
    eq-step o m.laws.ring xs (drop (j + 1) xs) c.args.number j c.loop-j.rest c.loop-j.product c.mul-product.result c.agreement.result c.variable_of-x.result front c.mul-product.ensures c.agreement.ensures c.loop-j.invariant

pub returns : goal.returns
returns g c =
    let m = g.F.Field in
    let o = m.ops in
    let xs = every_other c.args.a (point o c.args.on.now.bits c.args.on.now.bound.now c.args.on.now.t c.args.on.now.z) in
    sym (m.laws.ring.times_one c.loop-j.product)
    ∙ sym (ap (λ ys. o.times c.loop-j.product (eq o c.loop-j.rest ys)) (drop_all c.loop-j.j xs (omega (arith, part_length o c.args.a c.args.on.now.bits c.args.on.now.bound.now c.args.on.now.t c.args.on.now.z c.args.on.now.free))))
    ∙ c.loop-j.invariant
