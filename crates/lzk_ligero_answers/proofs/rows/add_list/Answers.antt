use Rattle.std.proofs.Common.{◌≡◌, ◌<◌, ℕ, length, refl, ap, ◌∙◌, arith}
use Rattle.std.proofs.lemmas.List.{get_or_default, get_or-set_other, length-set}
use Rattle.lzk_field.specs.Sums.{entry}
use Rattle.lzk_sumcheck.proofs.Filled.{filled_more}
use Rattle.lzk_sumcheck.proofs.ProvingLaws.{times-less}
use Rattle.lzk_ligero_answers.proofs.rows.add_list.Goals as goal

pub loop-k-init : goal.loop-k-init
loop-k-init g c = (refl, λ k h. absurd (omega (arith, h)), λ k h. refl)

pub loop-k-preserved : goal.loop-k-preserved
loop-k-preserved g c =
    let o = g.F.Field.ops in
    let l = c.loop-k in
    let xs = l.list in
    let old = c.args.list.now in
    let x = c.add.result in
    let within : l.k < length xs = omega (arith, c.loop-k-test.true, l.invariant.0) in
    let own : c.index-list-k.result ≡ entry o old l.k = c.index-list-k.is ∙ get_or_default xs l.k c.index-list-k.result o.zero within ∙ l.invariant.2 l.k (omega arith) in
    let given : c.index-values-k.result ≡ entry o c.args.values.now l.k = c.index-values-k.is ∙ get_or_default c.args.values.now l.k c.index-values-k.result o.zero (omega (arith, c.loop-k-test.true, c.requires)) in
    let f : ℕ → g.row.F.Denot = λ k. o.plus (entry o old k) (entry o c.args.values.now k) in
    let is : x ≡ f l.k = c.add.ensures ∙ ap (λ w. o.plus w c.index-values-k.result) own ∙ ap (o.plus (entry o old l.k)) given in (
      length-set xs l.k x ∙ l.invariant.0,
      filled_more o.zero f l.k xs x within is l.invariant.1,
      λ k h. get_or-set_other xs l.k k x o.zero (λ e. omega (arith, e, h)) ∙ l.invariant.2 k (omega (arith, h)),
    )

pub returns-clause-length : goal.returns-clause-length
returns-clause-length g c = c.loop-k.invariant.0

pub returns-clause-entries : goal.returns-clause-entries
returns-clause-entries g c = λ k h. c.loop-k.invariant.1 k (omega (arith, h, c.loop-k-test.false, c.loop-k.invariant.0))

pub offset_bounds-list-k : goal.offset_bounds-list-k
offset_bounds-list-k g c = record { fits = times-less c.loop-k.k (length c.args.list.now) _ _ c.loop-k-test.true (omega arith) }

pub bounds-list-k : goal.bounds-list-k
bounds-list-k g c = omega (arith, c.loop-k-test.true, c.loop-k.auto.list)

pub offset_bounds-list-k-in-loop-k : goal.offset_bounds-list-k-in-loop-k
offset_bounds-list-k-in-loop-k g c = record { fits = times-less c.loop-k.k (length c.args.list.now) _ _ c.loop-k-test.true (omega arith) }

pub bounds-list-k-in-loop-k : goal.bounds-list-k-in-loop-k
bounds-list-k-in-loop-k g c = omega (arith, c.loop-k-test.true, c.loop-k.auto.list)

pub offset_bounds-values-k : goal.offset_bounds-values-k
offset_bounds-values-k g c = omega (arith, c.loop-k-test.true, c.requires)

pub bounds-values-k : goal.bounds-values-k
bounds-values-k g c = omega (arith, c.loop-k-test.true, c.requires)
