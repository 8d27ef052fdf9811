use Rattle.std.proofs.Common.{◌≡◌, ℕ, ◌+◌, ◌*◌, ◌<◌, ◌≤◌, length, refl, arith, ap, ◌∙◌, mul-le-mul_right}
use Rattle.std.proofs.lemmas.List.{get_or_default, get_or-set_other, length-set}
use Rattle.lzk_field.specs.Sums.{entry, sum_below}
use Rattle.lzk_field.proofs.SumLaws.{sum-ext}
use Rattle.lzk_sumcheck.proofs.Filled.{filled_more}
use Rattle.lzk_sumcheck.proofs.ProvingLaws.{times-less}
use Rattle.lzk_ligero_answers.proofs.rows.add_products.Goals as goal

pub loop-k-preserved : goal.loop-k-preserved
loop-k-preserved g c =
    let m = g.F.Field in
    let o = m.ops in
    let r = m.laws.ring in
    let l = c.loop-k in
    let rows = c.args.factors.now.rows in
    let factors = c.args.factors.now.row_factors.now in
    let old = c.args.out.now in
    let column = c.gather.new.column in
    let here : ℕ → ℕ → g.row.F.Denot = λ i k. entry o c.args.factors.now.table.now.values.now ((3 + i) * c.args.factors.now.table.now.width + (c.args.from + k)) in
    let given : ℕ → ℕ → g.row.F.Denot = λ f k. entry o c.args.values.now (f * length old + k) in
    let sum : ℕ → ℕ → g.row.F.Denot = λ f k. sum_below o rows (λ i. o.times (entry o factors (f * rows + i)) (here i k)) in
    let sum_of : ℕ → ℕ → g.row.F.Denot = λ n f. sum_below o n (λ i. o.times (entry o factors (f * n + i)) (entry o column i)) in
    let f : ℕ → g.row.F.Denot = λ k. o.plus (entry o old k) (sum_below o 4 (λ f. o.times (given f k) (sum f k))) in
    let many : length column ≡ rows = c.gather.ensures.length ∙ l.invariant.1 in
    let summed : c.factored_at.result ≡ sum_below o 4 (λ f. o.times (given f l.k) (sum f l.k)) =
    c.factored_at.ensures
    ∙ ap (λ (n : ℕ). sum_below o 4 (λ f. o.times (given f l.k) (sum_of n f))) many
    ∙ sum-ext o r 4 (λ f. o.times (given f l.k) (sum_of rows f)) (λ f. o.times (given f l.k) (sum f l.k))
    (λ f z. ap (o.times (given f l.k))
    (sum-ext o r rows (λ i. o.times (entry o factors (f * rows + i)) (entry o column i)) (λ i. o.times (entry o factors (f * rows + i)) (here i l.k)) (λ i q. ap (o.times (entry o factors (f * rows + i))) (c.gather.ensures.entries i (omega (arith, q, l.invariant.1)))))) in
    let within : l.k < length l.out = omega (arith, c.loop-k-test.true, l.invariant.0) in
    let own : c.index-out-k.result ≡ entry o old l.k = c.index-out-k.is ∙ get_or_default l.out l.k c.index-out-k.result o.zero within ∙ l.invariant.3 l.k (omega arith) in
    let is : c.add.result ≡ f l.k = c.add.ensures ∙ ap (λ w. o.plus w c.factored_at.result) own ∙ ap (o.plus (entry o old l.k)) summed in (
      length-set l.out l.k c.add.result ∙ l.invariant.0,
      many,
      filled_more o.zero f l.k l.out c.add.result within is l.invariant.2,
      λ k h. get_or-set_other l.out l.k k c.add.result o.zero (λ e. omega (arith, e, h)) ∙ l.invariant.3 k (omega (arith, h)),
    )

pub loop-k-init : goal.loop-k-init
loop-k-init g c = (refl, c.split_at_mut-column.ensures.front_len, λ k h. absurd (omega (arith, h)), λ k h. refl)

pub returns-clause-length : goal.returns-clause-length
returns-clause-length g c = c.loop-k.invariant.0

pub returns-clause-sums : goal.returns-clause-sums
returns-clause-sums g c = λ k h. c.loop-k.invariant.2 k (omega (arith, h, c.loop-k-test.false, c.loop-k.invariant.0))

pub gather-requires-clause-inside : goal.gather-requires-clause-inside
gather-requires-clause-inside g c κs within =
    let f = c.args.factors.now in
    let t = f.table.now in
    let low : (3 + length c.loop-k.column) * t.width ≤ t.params.now.nrow * t.width = mul-le-mul_right t.width (omega (arith, c.loop-k.invariant.1, f.few, t.bounded.rows)) in
    omega (arith, low, t.inside)

pub gather-requires-clause-column : goal.gather-requires-clause-column
gather-requires-clause-column g c κs within = omega (arith, c.requires.short, c.loop-k-test.true)

pub invariant_of-gathered : goal.invariant_of-gathered
invariant_of-gathered g c = record { by_row = omega (arith, c.args.factors.now.by_row, c.gather.ensures.length, c.loop-k.invariant.1); by_place = c.requires.values }

pub factored_at-requires-clause-place : goal.factored_at-requires-clause-place
factored_at-requires-clause-place g c κs within = c.loop-k-test.true

pub offset_bounds-out-k : goal.offset_bounds-out-k
offset_bounds-out-k g c = record { fits = times-less c.loop-k.k (length c.args.out.now) _ _ c.loop-k-test.true (omega arith) }

pub bounds-out-k : goal.bounds-out-k
bounds-out-k g c = omega (arith, c.loop-k-test.true, c.loop-k.auto.out)

pub offset_bounds-out-k-in-loop-k : goal.offset_bounds-out-k-in-loop-k
offset_bounds-out-k-in-loop-k g c = record { fits = times-less c.loop-k.k (length c.args.out.now) _ _ c.loop-k-test.true (omega arith) }

pub bounds-out-k-in-loop-k : goal.bounds-out-k-in-loop-k
bounds-out-k-in-loop-k g c = omega (arith, c.loop-k-test.true, c.loop-k.auto.out)

pub split_at_mut-column-requires : goal.split_at_mut-column-requires
split_at_mut-column-requires g c = omega (arith, c.args.factors.now.few, c.args.factors.now.table.now.bounded.nrow)

pub overflow_add-from : goal.overflow_add-from
overflow_add-from g c =
    let inside : c.args.from + c.loop-k.k < c.args.factors.now.table.now.width = omega (arith, c.requires.short, c.loop-k-test.true) in
    omega arith
