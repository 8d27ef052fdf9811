use Rattle.std.proofs.Common.{◌≡◌, ◌+◌, ◌*◌, ℕ, length, sym, ap, ◌∙◌, rules, add-one}
use Rattle.lzk_field.specs.Sums.{entry, sum_below}
use Rattle.lzk_field.proofs.RingBasics.{zero_times}
use Rattle.lzk_field.proofs.SumLaws.{sum-ext, sum-zero}
use Rattle.lzk_verify.specs.Extending.{row_sum}
use Rattle.std.proofs.Common.{◌≤◌, arith}
use Rattle.std.proofs.lemmas.Nat.{mul-le}
use Rattle.lzk_verify.proofs.linear.sum_private.Goals as goal

pub returns-then-is_empty : goal.returns-then-is_empty
returns-then-is_empty g c =
    let o = g.F.Field.ops in
    let r = g.F.Field.laws.ring in
    let elements = c.args.elements.now in
    let table = c.args.row_factors.now in
    let none : length elements ≡ 0 = search rules in
    let back : ℕ → g.row.F.Denot = λ k. row_sum o c.args.place_factors.now c.args.factors.now k in
    let zero : c.zero.result ≡ o.zero = c.zero.ensures in
    let product : ℕ → g.row.F.Denot = λ k. o.times (row_sum o table elements k) (back k) in
    let each : (k : ℕ) → product k ≡ o.zero = λ k. ap (λ n. o.times (sum_below o n (λ s. o.times (entry o table (k * length elements + s)) (entry o elements s))) (back k)) none ∙ zero_times o r (back k) in
    zero ∙ sym (sum-ext o r 4 product (λ k. o.zero) (λ k h. each k) ∙ sum-zero o r 4)

pub loop-k-preserved : goal.loop-k-preserved
loop-k-preserved g c =
    let o = g.F.Field.ops in
    let before = sum_below o c.loop-k.k (λ k. o.times (row_sum o c.args.row_factors.now c.args.elements.now k) (row_sum o c.args.place_factors.now c.args.factors.now k)) in
    rw add-one (c.add-sum.ensures ∙ ap (λ z. o.plus z c.mul.result) c.loop-k.invariant ∙ ap (o.plus before) (c.mul.ensures ∙ (λ j. o.times (c.row_dot-multiple.ensures j) (c.row_dot.ensures j))))

pub loop-k-init : goal.loop-k-init
loop-k-init g c = c.zero-sum.ensures

pub row_dot-multiple-requires-clause-inside : goal.row_dot-multiple-requires-clause-inside
row_dot-multiple-requires-clause-inside g c κs within =
    let n = length c.args.elements.now in
    let rows : (c.loop-k.k + 1) * n ≤ 4 * n = mul-le (c.loop-k.k + 1) n 4 n (omega (arith, c.loop-k-test.true)) (omega arith) in
    omega (arith, rows, c.requires.of_rows)

pub row_dot-requires-clause-inside : goal.row_dot-requires-clause-inside
row_dot-requires-clause-inside g c κs within =
    let n = length c.args.factors.now in
    let rows : (c.loop-k.k + 1) * n ≤ 4 * n = mul-le (c.loop-k.k + 1) n 4 n (omega (arith, c.loop-k-test.true)) (omega arith) in
    omega (arith, rows, c.requires.of_places)

pub returns : goal.returns
returns g c =
    let o = g.F.Field.ops in
    let all : c.loop-k.k ≡ 4 = omega (arith, c.loop-k-test.false, c.loop-k.auto.k-end) in
    c.loop-k.invariant ∙ ap (λ n. sum_below o n (λ k. o.times (row_sum o c.args.row_factors.now c.args.elements.now k) (row_sum o c.args.place_factors.now c.args.factors.now k))) all
