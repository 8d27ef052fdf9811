use Rattle.std.proofs.Common.{◌≡◌, ℕ, ◌+◌, ◌*◌, ◌<◌, ◌≤◌, length, arith, ap, ◌∙◌, add-one, mul-le-mul_right}
use Rattle.std.proofs.lemmas.List.{get_or_default}
use Rattle.std.proofs.lemmas.Nat.{mul-add-lt}
use Rattle.lzk_field.specs.Sums.{entry, sum_below}
use Rattle.lzk_field.proofs.SumLaws.{sum-ext}
use Rattle.lzk_ligero_answers.proofs.rows.factored_at.Goals as goal

pub loop-f-preserved : goal.loop-f-preserved
loop-f-preserved g c =
    let m = g.F.Field in
    let o = m.ops in
    let f = c.loop-f.f in
    let size = c.args.gathered.now.size in
    let values = c.args.gathered.now.values.now in
    let factors = c.args.gathered.now.factors.now in
    let column = c.args.gathered.now.column.now in
    let rows = length column in
    let row = c.row_of.result.now in
    let sum : ℕ → g.row.F.Denot = λ f. sum_below o rows (λ i. o.times (entry o factors (f * rows + i)) (entry o column i)) in
    let value : ℕ → g.row.F.Denot = λ f. entry o values (f * size + c.args.k) in
    let within : f * size + c.args.k < length values = omega (arith, mul-add-lt f size c.args.k 4 (omega (arith, c.loop-f-test.true)) c.requires.place, c.args.gathered.now.by_place) in
    let given : c.index-values-f.result ≡ value f = c.index-values-f.is ∙ get_or_default values (f * size + c.args.k) c.index-values-f.result o.zero within in
    let multiples : c.dot-multiples.result ≡ sum f =
    c.dot-multiples.ensures
    ∙ ap (λ (n : ℕ). sum_below o n (λ i. o.times (entry o row i) (entry o column i))) c.row_of.ensures.size
    ∙ sum-ext o m.laws.ring rows (λ i. o.times (entry o row i) (entry o column i)) (λ i. o.times (entry o factors (f * rows + i)) (entry o column i)) (λ i q. ap (λ w. o.times w (entry o column i)) (c.row_of.ensures.values i q)) in
    rw add-one
    (c.add-sum.ensures ∙ ap (λ w. o.plus w c.mul.result) c.loop-f.invariant
    ∙ ap (o.plus (sum_below o f (λ f. o.times (value f) (sum f)))) (c.mul.ensures ∙ ap (λ w. o.times w c.dot-multiples.result) given ∙ ap (o.times (value f)) multiples))

pub loop-f-init : goal.loop-f-init
loop-f-init g c = c.zero-sum.ensures

pub returns : goal.returns
returns g c =
    let o = g.F.Field.ops in
    let size = c.args.gathered.now.size in
    let column = c.args.gathered.now.column.now in
    let rows = length column in
    let f : ℕ → g.row.F.Denot = λ f. o.times (entry o c.args.gathered.now.values.now (f * size + c.args.k)) (sum_below o rows (λ i. o.times (entry o c.args.gathered.now.factors.now (f * rows + i)) (entry o column i))) in
    let all : c.loop-f.f ≡ 4 = omega (arith, c.loop-f-test.false, c.loop-f.auto.f-end) in
    c.loop-f.invariant ∙ ap (λ (n : ℕ). sum_below o n f) all

pub row_of-requires-clause-inside : goal.row_of-requires-clause-inside
row_of-requires-clause-inside g c κs within =
    let rows = length c.args.gathered.now.column.now in
    let low : (c.loop-f.f + 1) * rows ≤ 4 * rows = mul-le-mul_right rows (omega (arith, c.loop-f-test.true)) in
    omega (arith, low, c.args.gathered.now.by_row)

pub dot-multiples-requires : goal.dot-multiples-requires
dot-multiples-requires g c = c.row_of.ensures.size

pub bounds-values-f : goal.bounds-values-f
bounds-values-f g c =
    let t = c.args.gathered.now in
    omega (arith, mul-add-lt c.loop-f.f t.size c.args.k 4 (omega (arith, c.loop-f-test.true)) c.requires.place, t.by_place)

pub overflow_mul-value : goal.overflow_mul-value
overflow_mul-value g c =
    let t = c.args.gathered.now in
    let inside : c.loop-f.f * t.size + c.args.k < length t.values.now = omega (arith, mul-add-lt c.loop-f.f t.size c.args.k 4 (omega (arith, c.loop-f-test.true)) c.requires.place, t.by_place) in
    omega arith

pub overflow_add-value : goal.overflow_add-value
overflow_add-value g c =
    let t = c.args.gathered.now in
    let inside : c.loop-f.f * t.size + c.args.k < length t.values.now = omega (arith, mul-add-lt c.loop-f.f t.size c.args.k 4 (omega (arith, c.loop-f-test.true)) c.requires.place, t.by_place) in
    omega arith

pub offset_bounds-values-f : goal.offset_bounds-values-f
offset_bounds-values-f g c =
    let t = c.args.gathered.now in
    let inside : c.loop-f.f * t.size + c.args.k < length t.values.now = omega (arith, mul-add-lt c.loop-f.f t.size c.args.k 4 (omega (arith, c.loop-f-test.true)) c.requires.place, t.by_place) in
    omega (arith, inside)
