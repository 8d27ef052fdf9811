use Rattle.std.proofs.Common.{◌≡◌, ◌≤◌, ◌+◌, ◌-◌, ◌*◌, ℕ, refl, arith, ap, sym, ◌∙◌, add-one, mul-le-mul_right}
use Rattle.lzk_field.specs.Sums.{sum_below, entry}
use Rattle.lzk_poly.specs.Extension.{extension}
use Rattle.lzk_ligero_answers.proofs.TableLaws.{cell}
use Rattle.lzk_ligero_answers.proofs.linear.add_listed.Goals as goal

pub loop-t-preserved : goal.loop-t-preserved
loop-t-preserved g c =
    let f = g.F.Field in
    let o = f.ops in
    let p = c.args.extending.now.combined.now.table.now.params.now in
    let m = c.args.extending.now.combined.now.rows in
    let t = c.loop-t.t in (
      c.add_extended.ensures.room ∙ c.loop-t.invariant.0,
      c.add_extended.ensures.answer ∙ c.loop-t.invariant.1,
      λ lists are k h.
          let E : ℕ → g.row.F.Denot = λ t. extension o f.coding.element (lists (3 + (m + t))) k in
          let here : ℕ → g.row.F.Denot = λ t. cell o c.args.extending.now.combined.now.table.now.width c.args.extending.now.combined.now.table.now.values.now (3 + (m + t)) k in
          let is = are t (omega (arith, c.loop-t-test.true)) in
          let sum = sum_below o t (λ t. o.times (E t) (here t)) in
          let old = entry o c.args.answer.now k in
          rw add-one (
          c.add_extended.ensures.values (lists (3 + (m + t))) (record { count = is.count; front = is.front; back = λ s q. is.back s q ∙ sym (c.row_of-row.ensures.values s (omega (arith, q))) }) k h
          ∙ ap (λ w. o.plus w (o.times (E t) (entry o c.row_of-values.result.now k))) (c.loop-t.invariant.2 lists are k h)
          ∙ ap (λ w. o.plus (o.plus old sum) (o.times (E t) w)) (c.row_of-values.ensures.values k (omega (arith, h)))
          ∙ f.laws.ring.plus_assoc old sum (o.times (E t) (here t))),
    )

pub returns-clause-values : goal.returns-clause-values
returns-clause-values g c lists are k h =
    let f = g.F.Field in
    let o = f.ops in
    let p = c.args.extending.now.combined.now.table.now.params.now in
    let m = c.args.extending.now.combined.now.rows in
    let done : c.loop-t.t ≡ p.nrow - 3 - m = omega (arith, c.loop-t-test.false, c.loop-t.auto.t-end) in
    c.loop-t.invariant.2 lists are k h
    ∙ ap (λ (n : ℕ). o.plus (entry o c.args.answer.now k) (sum_below o n (λ t. o.times (extension o f.coding.element (lists (3 + (m + t))) k) (cell o c.args.extending.now.combined.now.table.now.width c.args.extending.now.combined.now.table.now.values.now (3 + (m + t)) k)))) done

pub loop-t-init : goal.loop-t-init
loop-t-init g c = (refl, c.requires.answer, λ lists are k h. sym (g.F.Field.laws.ring.plus_zero (entry g.F.Field.ops c.args.answer.now k)))

pub row_of-row-requires-clause-inside : goal.row_of-row-requires-clause-inside
row_of-row-requires-clause-inside g c κs within =
    let p = c.args.extending.now.combined.now.table.now.params.now in
    let low : (c.loop-t.t + 1) * p.wr ≤ (p.nrow - 3 - c.args.extending.now.combined.now.rows) * p.wr = mul-le-mul_right p.wr (omega (arith, c.loop-t-test.true)) in
    omega (arith, low, c.args.extending.now.combined.now.count)

pub row_of-values-requires-clause-inside : goal.row_of-values-requires-clause-inside
row_of-values-requires-clause-inside g c κs within =
    let t = c.args.extending.now.combined.now.table.now in
    let low : (3 + (c.args.extending.now.combined.now.rows + c.loop-t.t) + 1) * t.width ≤ t.params.now.nrow * t.width = mul-le-mul_right t.width (omega (arith, c.loop-t-test.true)) in
    omega (arith, low, t.inside)

pub row_of-values-requires-clause-short : goal.row_of-values-requires-clause-short
row_of-values-requires-clause-short g c κs within = c.args.extending.now.combined.now.table.now.wide

pub invariant_of-given : goal.invariant_of-given
invariant_of-given g c = record { count = c.row_of-row.ensures.size }

pub add_extended-requires-clause-values : goal.add_extended-requires-clause-values
add_extended-requires-clause-values g c κs within = c.row_of-values.ensures.size

pub add_extended-requires-clause-room : goal.add_extended-requires-clause-room
add_extended-requires-clause-room g c = omega (arith, c.requires.room, c.loop-t.invariant.0)

pub add_extended-requires-clause-answer : goal.add_extended-requires-clause-answer
add_extended-requires-clause-answer g c κs within = c.loop-t.invariant.1

pub returns-clause-room : goal.returns-clause-room
returns-clause-room g c = c.loop-t.invariant.0

pub returns-clause-answer : goal.returns-clause-answer
returns-clause-answer g c = c.loop-t.invariant.1 ∙ sym c.requires.answer
