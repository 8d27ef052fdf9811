use Rattle.std.proofs.Common.{◌≡◌, ◌∙◌, ap, sym, subst, arith, take, length}
use Rattle.std.proofs.lemmas.List.{take_all}
use Rattle.lzk_field.specs.Sums.{entry}
use Rattle.lzk_circuit_reduce.specs.Rows.{IsRow, row_value}
use Rattle.lzk_level.proofs.NumberedLaws.{under-at, carry-at, term-carried, value-adds}
use Rattle.std.proofs.lemmas.Result.{IfOk-from_err}
use Rattle.std.proofs.lemmas.Bool.{false≢true, true≢false}
use Rattle.lzk_level.proofs.wires.add_terms.Goals as goal

pub loop-term-init : goal.loop-term-init
loop-term-init g c =
    let none = c.clear.ensures.items in
    record {
      row = λ width h. subst (IsRow g.F.Field.ops width) (sym none) tt;
      value = λ values wires h. ap (row_value g.F.Field.ops wires) none;
      short = omega (arith, ap length none);
    }

pub returns-then-is_late-clause-many : goal.returns-then-is_late-clause-many
returns-then-is_late-clause-many g c e = omega (arith, c.is_late.ensures c.if-is_late.true, c.loop-term.invariant.short, c.loop-term-test.true)

pub loop-term-preserved : goal.loop-term-preserved
loop-term-preserved g c =
    let o = g.F.Field.ops in
    let r = g.F.Field.laws.ring in
    let form = c.args.form.now in
    let numbers = c.args.numbers.now in
    let i = c.loop-term.term-index in
    let t = c.term-item.result in
    let l = c.loop-term-test.true in
    let e = c.in_ok-add_term.ensures in
    let a = c.number_at-a.result in
    let b = c.number_at-b.result in
    record {
      row = λ width h.
          let under = under-at numbers width form i t l c.term-item.is h in
          e.row width (c.loop-term.invariant.row width h) (omega (arith, under.0, c.number_at-a.ensures)) (omega (arith, under.1, c.number_at-b.ensures));
      value = λ values wires h.
          value-adds o r values form i t (o.times t.coef (o.times (entry o wires a) (entry o wires b))) (row_value o wires c.loop-term.row.items) (row_value o wires c.add_term.new.row.items) l c.term-item.is
          (term-carried o r numbers values wires t a b c.number_at-a.ensures c.number_at-b.ensures (carry-at o r numbers values wires form i t l c.term-item.is h)) (e.value wires) (c.loop-term.invariant.value values wires h);
      short = omega (arith, e.short, c.loop-term.invariant.short);
    }

pub returns-clause-all : goal.returns-clause-all
returns-clause-all g c e =
    let o = g.F.Field.ops in
    let form = c.args.form.now in
    let i = c.loop-term.invariant in
    let whole : take c.loop-term.term-index form ≡ form = take_all c.loop-term.term-index form (omega (arith, c.loop-term-test.false)) in
    record { is = i.row; value = λ values wires h. i.value values wires h ∙ ap (row_value o values) whole; short = omega (arith, i.short, ap length whole, c.loop-term.auto.term-index-end) }

pub offset_bounds-form-term-index : goal.offset_bounds-form-term-index
offset_bounds-form-term-index g c = omega (arith, c.loop-term-test.true)

pub returns-then-is_late-clause-all : goal.returns-then-is_late-clause-all
returns-then-is_late-clause-all g c e = absurd (false≢true e)

pub returns-in_err-add_term-clause-all : goal.returns-in_err-add_term-clause-all
returns-in_err-add_term-clause-all g c = IfOk-from_err _ _ c.from_residual.ensures.0

pub returns-in_err-add_term-clause-many : goal.returns-in_err-add_term-clause-many
returns-in_err-add_term-clause-many g c = IfOk-from_err _ _ c.from_residual.ensures.0

pub returns-clause-many : goal.returns-clause-many
returns-clause-many g c e = absurd (true≢false e)
