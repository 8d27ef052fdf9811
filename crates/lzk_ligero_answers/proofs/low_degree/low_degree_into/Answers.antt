use Rattle.std.proofs.Common.{◌≡◌, ◌≤◌, ◌+◌, ◌*◌, length, arith, ap, sym, ◌∙◌, mul-le-mul_right}
use Rattle.lzk_field.specs.Sums.{sum_below, entry}
use Rattle.lzk_ligero_answers.proofs.TableLaws.{low_degree_made}
use Rattle.lzk_ligero_answers.proofs.low_degree.low_degree_into.Goals as goal

pub returns-clause-values : goal.returns-clause-values
returns-clause-values g c rows count is =
    let m = g.F.Field in
    let o = m.ops in
    let b = c.args.table.now.bounded in
    let u = c.args.u.now in
    let table = c.args.table.now.values.now in
    let width = c.args.table.now.width in
    low_degree_made o m.laws.ring m.coding.element c.args.table.now.params.now rows width table c.add_rows.new.out is count u (omega (arith, b.rows)) (omega (arith, b.block, b.dblock, c.args.table.now.wide)) c.requires.u (omega (arith, c.add_rows.ensures.length, ap length c.set_list.ensures, c.row_of.ensures.size))
    (λ k h. c.add_rows.ensures.sums k (omega (arith, h, ap length c.set_list.ensures, c.row_of.ensures.size))
    ∙ ap (λ x. o.plus x (sum_below o (length u) (λ i. o.times (entry o u i) (entry o table ((3 + i) * width + k))))) (ap (λ values. entry o values k) c.set_list.ensures ∙ c.row_of.ensures.values k h))

pub row_of-requires-clause-inside : goal.row_of-requires-clause-inside
row_of-requires-clause-inside g c κs within =
    let t = c.args.table.now in
    let low : 1 * t.width ≤ t.params.now.nrow * t.width = mul-le-mul_right t.width (omega (arith, t.bounded.rows)) in
    omega (arith, low, t.inside)

pub row_of-requires-clause-short : goal.row_of-requires-clause-short
row_of-requires-clause-short g c κs within = let t = c.args.table.now in omega (arith, t.wide, t.bounded.block, t.bounded.dblock)

pub set_list-requires-after_bounds : goal.set_list-requires-after_bounds
set_list-requires-after_bounds g c κs within = c.row_of.ensures.size ∙ sym c.requires.answer

pub invariant_of-rows : goal.invariant_of-rows
invariant_of-rows g c =
    let t = c.args.table.now in
    let count : 3 + length c.args.u.now ≡ t.params.now.nrow = omega (arith, c.requires.u, t.bounded.rows) in
    let same : (3 + length c.args.u.now) * t.width ≡ t.params.now.nrow * t.width = ap (λ n. n * t.width) count in
    record { inside = omega (arith, same, t.inside); few = omega (arith, count, t.bounded.nrow) }

pub returns-clause-answer : goal.returns-clause-answer
returns-clause-answer g c = c.add_rows.ensures.length ∙ ap length c.set_list.ensures ∙ c.row_of.ensures.size ∙ sym c.requires.answer
