use Rattle.std.proofs.Common.{◌≡◌, ℕ, ◌+◌, ◌*◌, ◌<◌, length, refl, arith, ap, sym, ◌∙◌}
use Rattle.std.proofs.lemmas.List.{get_or_default, get_or-set_other, length-set}
use Rattle.lzk_field.specs.Sums.{entry, sum_below}
use Rattle.lzk_field.proofs.SumLaws.{sum-ext}
use Rattle.lzk_sumcheck.proofs.Filled.{filled_more}
use Rattle.lzk_sumcheck.proofs.ProvingLaws.{times-less}
use Rattle.lzk_ligero_answers.proofs.rows.add_group.Goals as goal

pub loop-k-preserved : goal.loop-k-preserved
loop-k-preserved g c =
    let m = g.F.Field in
    let o = m.ops in
    let l = c.loop-k in
    let old = c.args.out.now in
    let factors = c.args.rows.now.factors.now in
    let column = c.gather.new.column in
    let here : ℕ → ℕ → g.row.F.Denot = λ i k. entry o c.args.rows.now.table.now ((c.args.rows.now.first + i) * c.args.rows.now.width + k) in
    let f : ℕ → g.row.F.Denot = λ k. o.plus (entry o old k) (sum_below o (length factors) (λ i. o.times (entry o factors i) (here i k))) in
    let within : l.k < length l.out = omega (arith, c.loop-k-test.true, l.invariant.0) in
    let own : c.index-out-k.result ≡ entry o old l.k = c.index-out-k.is ∙ get_or_default l.out l.k c.index-out-k.result o.zero within ∙ l.invariant.3 l.k (omega arith) in
    let is : c.add.result ≡ f l.k =
    c.add.ensures ∙ ap (λ w. o.plus w c.dot.result) own
    ∙ ap (o.plus (entry o old l.k))
    (c.dot.ensures ∙ sum-ext o m.laws.ring (length factors) (λ i. o.times (entry o factors i) (entry o column i)) (λ i. o.times (entry o factors i) (here i l.k)) (λ i q. ap (o.times (entry o factors i)) (c.gather.ensures.entries i (omega (arith, q, l.invariant.1))))) in (
      length-set l.out l.k c.add.result ∙ l.invariant.0,
      c.gather.ensures.length ∙ l.invariant.1,
      filled_more o.zero f l.k l.out c.add.result within is l.invariant.2,
      λ k h. get_or-set_other l.out l.k k c.add.result o.zero (λ e. omega (arith, e, h)) ∙ l.invariant.3 k (omega (arith, h)),
    )

pub loop-k-init : goal.loop-k-init
loop-k-init g c = (refl, c.requires.column, λ k h. absurd (omega (arith, h)), λ k h. refl)

pub returns-clause-length : goal.returns-clause-length
returns-clause-length g c = c.loop-k.invariant.0

pub returns-clause-sums : goal.returns-clause-sums
returns-clause-sums g c = λ k h. c.loop-k.invariant.2 k (omega (arith, h, c.loop-k-test.false, c.loop-k.invariant.0))

pub gather-requires-clause-inside : goal.gather-requires-clause-inside
gather-requires-clause-inside g c κs within =
    let r = c.args.rows.now in
    let same : (r.first + length c.loop-k.column) * r.width ≡ (r.first + length r.factors.now) * r.width = ap (λ n. (r.first + n) * r.width) c.loop-k.invariant.1 in
    omega (arith, same, r.inside)

pub gather-requires-clause-column : goal.gather-requires-clause-column
gather-requires-clause-column g c κs within = omega (arith, c.loop-k-test.true, c.loop-k.invariant.0, c.requires.short)

pub dot-requires : goal.dot-requires
dot-requires g c = sym (c.gather.ensures.length ∙ c.loop-k.invariant.1)

pub offset_bounds-out-k : goal.offset_bounds-out-k
offset_bounds-out-k g c = record { fits = times-less c.loop-k.k (length c.args.out.now) _ _ c.loop-k-test.true (omega arith) }

pub bounds-out-k : goal.bounds-out-k
bounds-out-k g c = omega (arith, c.loop-k-test.true, c.loop-k.auto.out)

pub offset_bounds-out-k-in-loop-k : goal.offset_bounds-out-k-in-loop-k
offset_bounds-out-k-in-loop-k g c = record { fits = times-less c.loop-k.k (length c.args.out.now) _ _ c.loop-k-test.true (omega arith) }

pub bounds-out-k-in-loop-k : goal.bounds-out-k-in-loop-k
bounds-out-k-in-loop-k g c = omega (arith, c.loop-k-test.true, c.loop-k.auto.out)
