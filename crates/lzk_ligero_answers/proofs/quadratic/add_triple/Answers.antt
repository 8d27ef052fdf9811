use Rattle.std.proofs.Common.{◌≤◌, ◌+◌, ◌*◌, arith, ap, sym, ◌∙◌, mul-le-mul_right}
use Rattle.lzk_field.specs.Sums.{entry, minus}
use Rattle.lzk_ligero_answers.proofs.TableLaws.{cell, triple_added}
use Rattle.lzk_ligero_answers.proofs.quadratic.add_triple.Goals as goal

pub returns-clause-entries : goal.returns-clause-entries
returns-clause-entries g c k h =
    let m = g.F.Field in
    let o = m.ops in
    let by = c.args.by in
    let old = entry o c.args.answer.now k in
    let x = entry o c.row_of-x.result.now k in
    let y = entry o c.row_of-y.result.now k in
    let z = entry o c.row_of-z.result.now k in
    let here = cell o c.args.triple.now.width c.args.triple.now.table.now in
    let first = c.args.triple.now.first in
    triple_added o m.laws.ring old (entry o c.add_multiple.new.answer k) (entry o c.add_product.new.answer k) x y z by c.neg.result (c.add_product.ensures.entries k h) c.neg.ensures (c.add_multiple.ensures.entries k (omega (arith, h, c.add_product.ensures.length)))
    ∙ ap (λ w. o.plus old (o.times by (minus o (o.times w y) z))) (c.row_of-x.ensures.values k (omega (arith, h)))
    ∙ ap (λ w. o.plus old (o.times by (minus o (o.times (here first k) w) z))) (c.row_of-y.ensures.values k (omega (arith, h)))
    ∙ ap (λ w. o.plus old (o.times by (minus o (o.times (here first k) (here (first + 1) k)) w))) (c.row_of-z.ensures.values k (omega (arith, h)))

pub row_of-x-requires-clause-inside : goal.row_of-x-requires-clause-inside
row_of-x-requires-clause-inside g c κs within =
    let t = c.args.triple.now in
    let low : (t.first + 1) * t.width ≤ (t.first + 3) * t.width = mul-le-mul_right t.width (omega arith) in
    omega (arith, low, t.inside)

pub row_of-x-requires-clause-short : goal.row_of-x-requires-clause-short
row_of-x-requires-clause-short g c κs within = c.requires.short

pub row_of-y-requires-clause-inside : goal.row_of-y-requires-clause-inside
row_of-y-requires-clause-inside g c κs within =
    let t = c.args.triple.now in
    let low : (t.first + 1 + 1) * t.width ≤ (t.first + 3) * t.width = mul-le-mul_right t.width (omega arith) in
    omega (arith, low, t.inside)

pub row_of-y-requires-clause-short : goal.row_of-y-requires-clause-short
row_of-y-requires-clause-short g c κs within = c.requires.short

pub row_of-z-requires-clause-inside : goal.row_of-z-requires-clause-inside
row_of-z-requires-clause-inside g c κs within =
    let t = c.args.triple.now in
    let low : (t.first + 2 + 1) * t.width ≤ (t.first + 3) * t.width = mul-le-mul_right t.width (omega arith) in
    omega (arith, low, t.inside)

pub row_of-z-requires-clause-short : goal.row_of-z-requires-clause-short
row_of-z-requires-clause-short g c κs within = c.requires.short

pub add_product-requires-clause-x : goal.add_product-requires-clause-x
add_product-requires-clause-x g c κs within = c.row_of-x.ensures.size

pub add_product-requires-clause-y : goal.add_product-requires-clause-y
add_product-requires-clause-y g c κs within = c.row_of-y.ensures.size

pub add_multiple-requires-clause-z : goal.add_multiple-requires-clause-z
add_multiple-requires-clause-z g c κs within = c.row_of-z.ensures.size ∙ sym c.add_product.ensures.length

pub returns-clause-length : goal.returns-clause-length
returns-clause-length g c = c.add_multiple.ensures.length ∙ c.add_product.ensures.length

pub overflow_add-first : goal.overflow_add-first
overflow_add-first g c = omega (arith, c.args.triple.now.few)

pub overflow_add-first-2 : goal.overflow_add-first-2
overflow_add-first-2 g c = omega (arith, c.args.triple.now.few)
