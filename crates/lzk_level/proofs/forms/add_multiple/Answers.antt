use Rattle.std.proofs.Common.{◌∙◌, ap, sym, subst, ◌+◌, arith, take, None}
use Rattle.std.proofs.lemmas.List.{take_all}
use Rattle.lzk_field.specs.Sums.{entry}
use Rattle.lzk_field.proofs.RingBasics.{times_zero}
use Rattle.lzk_circuit_reduce.specs.Rows.{IsUnder, row_value}
use Rattle.lzk_level.proofs.SumLaws.{part-value, value-more, term-within}
use Rattle.std.proofs.lemmas.Result.{IfOk-from_err}
use Rattle.lzk_level.proofs.forms.add_multiple.Goals as goal

pub loop-i-init : goal.loop-i-init
loop-i-init g c =
    let o = g.F.Field.ops in
    let r = g.F.Field.laws.ring in
    record {
      row = λ width h k. h;
      value = λ below. sym (ap (o.plus (row_value o below c.args.row.now.items)) (times_zero o r c.args.factor) ∙ r.plus_zero _);
      short = omega arith;
      under = λ ns d h k. h;
    }

pub loop-i-preserved : goal.loop-i-preserved
loop-i-preserved g c =
    let o = g.F.Field.ops in
    let r = g.F.Field.laws.ring in
    let part = c.args.part.now in
    let i = c.loop-i.i in
    let t = c.index-part-i.result in
    let l = c.loop-i-test.true in
    let e = c.in_ok-add_term.ensures in
    record {
      row = λ width h k. let within = term-within o width None part i t k l c.index-part-i.is in e.row width (c.loop-i.invariant.row width h k) within.0 within.1;
      value = λ below.
          let x = o.times (entry o below t.a) (entry o below t.b) in
          e.value below ∙ ap (λ f. o.plus (o.times f x) (row_value o below c.loop-i.row.items)) c.times.ensures
          ∙ part-value o r c.args.factor t.coef x (row_value o below c.args.row.now.items) (row_value o below c.loop-i.row.items) (row_value o below (take i part)) (row_value o below (take (i + 1) part)) (value-more o r below part i t l c.index-part-i.is) (c.loop-i.invariant.value below);
      short = omega (arith, e.short, c.loop-i.invariant.short);
      under = λ ns d h k. let own = subst (IsUnder ns d) (sym c.index-part-i.is) (k i t l) in e.under ns d (c.loop-i.invariant.under ns d h k) own.0 own.1;
    }

pub returns-clause-value : goal.returns-clause-value
returns-clause-value g c below =
    let o = g.F.Field.ops in
    c.loop-i.invariant.value below ∙ ap (λ us. o.plus (row_value o below c.args.row.now.items) (o.times c.args.factor (row_value o below us))) (take_all c.loop-i.i c.args.part.now (omega (arith, c.loop-i-test.false)))

pub offset_bounds-part-i : goal.offset_bounds-part-i
offset_bounds-part-i g c = omega (arith, c.loop-i-test.true)

pub bounds-part-i : goal.bounds-part-i
bounds-part-i g c = c.loop-i-test.true

pub returns-in_err-add_term-clause-row : goal.returns-in_err-add_term-clause-row
returns-in_err-add_term-clause-row g c width h k = IfOk-from_err _ _ c.from_residual.ensures.0

pub returns-in_err-add_term-clause-value : goal.returns-in_err-add_term-clause-value
returns-in_err-add_term-clause-value g c below = IfOk-from_err _ _ c.from_residual.ensures.0

pub returns-in_err-add_term-clause-short : goal.returns-in_err-add_term-clause-short
returns-in_err-add_term-clause-short g c = IfOk-from_err _ _ c.from_residual.ensures.0

pub returns-in_err-add_term-clause-under : goal.returns-in_err-add_term-clause-under
returns-in_err-add_term-clause-under g c ns d h k = IfOk-from_err _ _ c.from_residual.ensures.0

pub returns-clause-row : goal.returns-clause-row
returns-clause-row g c = c.loop-i.invariant.row

pub returns-clause-short : goal.returns-clause-short
returns-clause-short g c = omega (arith, c.loop-i.invariant.short, c.loop-i.auto.i-end)

pub returns-clause-under : goal.returns-clause-under
returns-clause-under g c = c.loop-i.invariant.under
