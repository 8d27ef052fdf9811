use Rattle.std.proofs.Common.{◌-◌, arith}
use Rattle.std.proofs.lemmas.Result.{IfOk-from_err}
use Rattle.lzk_goldilocks.specs.Elements.{ops, field}
use Rattle.lzk_sha_circuit.proofs.FewLaws.{sum-adds, sum-none, sum-whole}
use Rattle.lzk_sha_circuit.proofs.rows.row_of_few.Goals as goal

pub loop-i-preserved : goal.loop-i-preserved
loop-i-preserved c =
    let e = c.in_ok-add_term.ensures in
    sum-adds ops c.args.products.now (c.loop-i.i - 1) c.loop-i.i c.index-products-i.result c.loop-i.row.items c.add_term.new.row.items field.one_not_zero
    (omega (arith, c.loop-i-test.true, c.loop-i.auto.i)) (omega (arith, c.loop-i-test.true)) c.index-products-i.is e.row e.value e.short e.alone c.loop-i.invariant

pub loop-i-init : goal.loop-i-init
loop-i-init c = sum-none ops c.args.products.now c.in_ok-row.row.items c.in_ok-row.ensures.items

pub overflow_step-i : goal.overflow_step-i
overflow_step-i c = omega (arith, c.loop-i-test.true)

pub bounds-products-i : goal.bounds-products-i
bounds-products-i c = omega (arith, c.loop-i-test.true, c.loop-i.auto.i)

pub loop-i-smaller : goal.loop-i-smaller
loop-i-smaller c = omega (arith, c.loop-i-test.true)

pub returns-in_err-row-clause-row : goal.returns-in_err-row-clause-row
returns-in_err-row-clause-row c = λ width h. IfOk-from_err _ _ c.from_residual.ensures.0

pub returns-in_err-row-clause-value : goal.returns-in_err-row-clause-value
returns-in_err-row-clause-value c = λ below. IfOk-from_err _ _ c.from_residual.ensures.0

pub returns-in_err-row-clause-short : goal.returns-in_err-row-clause-short
returns-in_err-row-clause-short c = IfOk-from_err _ _ c.from_residual.ensures.0

pub returns-in_err-row-clause-one : goal.returns-in_err-row-clause-one
returns-in_err-row-clause-one c = λ same. IfOk-from_err _ _ c.from_residual.ensures.0

pub returns-in_err-add_term-clause-row : goal.returns-in_err-add_term-clause-row
returns-in_err-add_term-clause-row c = λ width h. IfOk-from_err _ _ c.from_residual-in_err-add_term.ensures.0

pub returns-in_err-add_term-clause-value : goal.returns-in_err-add_term-clause-value
returns-in_err-add_term-clause-value c = λ below. IfOk-from_err _ _ c.from_residual-in_err-add_term.ensures.0

pub returns-in_err-add_term-clause-short : goal.returns-in_err-add_term-clause-short
returns-in_err-add_term-clause-short c = IfOk-from_err _ _ c.from_residual-in_err-add_term.ensures.0

pub returns-in_err-add_term-clause-one : goal.returns-in_err-add_term-clause-one
returns-in_err-add_term-clause-one c = λ same. IfOk-from_err _ _ c.from_residual-in_err-add_term.ensures.0

pub returns-clause-row : goal.returns-clause-row
returns-clause-row c = (sum-whole ops c.args.products.now c.loop-i.i c.loop-i.row.items c.loop-i-test.false c.loop-i.invariant).terms

pub returns-clause-value : goal.returns-clause-value
returns-clause-value c = (sum-whole ops c.args.products.now c.loop-i.i c.loop-i.row.items c.loop-i-test.false c.loop-i.invariant).value

pub returns-clause-short : goal.returns-clause-short
returns-clause-short c = (sum-whole ops c.args.products.now c.loop-i.i c.loop-i.row.items c.loop-i-test.false c.loop-i.invariant).short

pub returns-clause-one : goal.returns-clause-one
returns-clause-one c = (sum-whole ops c.args.products.now c.loop-i.i c.loop-i.row.items c.loop-i-test.false c.loop-i.invariant).one
