use Rattle.std.proofs.Common.{◌≡◌, ◌+◌, ◌*◌, ◌≤◌, ℕ, length, arith, ap, sym, ◌∙◌, add-one, mul-le-mul_right}
use Rattle.std.proofs.lemmas.List.{get_or_default}
use Rattle.lzk_field.specs.Sums.{sum_below, entry, minus}
use Rattle.lzk_ligero_answers.proofs.TableLaws.{cell, quadratic_made}
use Rattle.lzk_ligero_answers.proofs.quadratic.quadratic_into.Goals as goal

pub invariant_of-triple : goal.invariant_of-triple
invariant_of-triple g c =
    let p = c.args.table.now.params.now in
    let last : 3 + p.nwrow + 3 * c.loop-t.t + 3 ≤ p.nrow = omega (arith, c.args.table.now.bounded.rows, c.requires.v, c.loop-t-test.true, c.loop-t.auto.t-end) in
    let low : (3 + p.nwrow + 3 * c.loop-t.t + 3) * c.args.table.now.width ≤ p.nrow * c.args.table.now.width = mul-le-mul_right c.args.table.now.width last in
    record { inside = omega (arith, low, c.args.table.now.inside); few = omega (arith, last, c.args.table.now.bounded.nrow) }

pub loop-t-preserved : goal.loop-t-preserved
loop-t-preserved g c =
    let m = g.F.Field in
    let o = m.ops in
    let p = c.args.table.now.params.now in
    let v = c.args.v.now in
    let t = c.loop-t.t in
    let by = c.index-v-t.result in
    let here = cell o c.args.table.now.width c.args.table.now.values.now in (
      c.add_triple.ensures.length ∙ c.loop-t.invariant.0,
      λ k h.
          let triple : ℕ → g.row.F.Denot = λ t. let i = 3 + p.nwrow + 3 * t in minus o (o.times (here i k) (here (i + 1) k)) (here (i + 2) k) in
          let sum = sum_below o t (λ t. o.times (entry o v t) (triple t)) in
          let is : by ≡ entry o v t = c.index-v-t.is ∙ get_or_default v t by o.zero c.loop-t-test.true in
          rw add-one (
          c.add_triple.ensures.entries k (omega (arith, h, c.loop-t.invariant.0))
          ∙ ap (λ x. o.plus x (o.times by (triple t))) (c.loop-t.invariant.1 k h)
          ∙ ap (λ x. o.plus (o.plus (here 2 k) sum) (o.times x (triple t))) is
          ∙ m.laws.ring.plus_assoc (here 2 k) sum (o.times (entry o v t) (triple t))),
    )

pub returns-clause-values : goal.returns-clause-values
returns-clause-values g c rows count is =
    let m = g.F.Field in
    let o = m.ops in
    let p = c.args.table.now.params.now in
    let v = c.args.v.now in
    let here = cell o c.args.table.now.width c.args.table.now.values.now in
    let done : c.loop-t.t ≡ p.ntriple = omega (arith, c.loop-t-test.false, c.loop-t.auto.t-end, c.requires.v) in
    quadratic_made o m.laws.ring m.coding.element p rows c.args.table.now.width c.args.table.now.values.now c.loop-t.answer is count v c.args.table.now.bounded.rows c.args.table.now.wide c.loop-t.invariant.0
    (λ k h. c.loop-t.invariant.1 k h ∙ ap (λ (n : ℕ). o.plus (here 2 k) (sum_below o n (λ t. let i = 3 + p.nwrow + 3 * t in o.times (entry o v t) (minus o (o.times (here i k) (here (i + 1) k)) (here (i + 2) k))))) done)

pub row_of-requires-clause-inside : goal.row_of-requires-clause-inside
row_of-requires-clause-inside g c κs within =
    let t = c.args.table.now in
    let low : 3 * t.width ≤ t.params.now.nrow * t.width = mul-le-mul_right t.width (omega (arith, t.bounded.rows)) in
    omega (arith, low, t.inside)

pub row_of-requires-clause-short : goal.row_of-requires-clause-short
row_of-requires-clause-short g c κs within = c.args.table.now.wide

pub set_list-requires-after_bounds : goal.set_list-requires-after_bounds
set_list-requires-after_bounds g c κs within = c.row_of.ensures.size ∙ sym c.requires.answer

pub loop-t-init : goal.loop-t-init
loop-t-init g c =
    let o = g.F.Field.ops in
    let t = c.args.table.now in (
      ap length c.set_list.ensures ∙ c.row_of.ensures.size,
      λ k h. ap (λ xs. entry o xs k) c.set_list.ensures ∙ c.row_of.ensures.values k h ∙ sym (g.F.Field.laws.ring.plus_zero (cell o t.width t.values.now 2 k)),
    )

pub add_triple-requires-clause-short : goal.add_triple-requires-clause-short
add_triple-requires-clause-short g c κs within = omega (arith, c.loop-t.invariant.0, c.args.table.now.wide)

pub returns-clause-answer : goal.returns-clause-answer
returns-clause-answer g c = c.loop-t.invariant.0 ∙ sym c.requires.answer
