use Rattle.std.proofs.Common.{◌≡◌, ◌∙◌, sym, ap, subst, length, ◌/◌}
use Rattle.std.proofs.lemmas.Result.{IfOk-weaker, IfOk-from_err}
use Rattle.lzk_goldilocks.specs.Elements.{ops, ring}
use Rattle.lzk_circuit_reduce.specs.Rows.{IsRow, row_value}
use Rattle.lzk_sha_circuit.specs.Products.{AreWithin, products_value}
use Rattle.lzk_sha_circuit.proofs.RowLaws.{within-split, halves, value-of-halves}
use Rattle.lzk_sha_circuit.proofs.rows.+row_of.Goals as goal

pub returns-clause-row : goal.returns-clause-row
returns-clause-row t c width within =
    let front = c.split_at.result.0.now in
    let back = c.split_at.result.1.now in
    let e = halves (length c.args.products.now / 2) c.args.products.now front back c.split_at.ensures.front c.split_at.ensures.back in
    let parts = within-split width front back (subst (AreWithin width) e within) in
    c.merged.ensures.row width (subst (IsRow ops width) (sym c.deref.ensures.value) (c.in_ok-left.ensures.row width parts.0)) (subst (IsRow ops width) (sym c.deref-2.ensures.value) (c.in_ok-right.ensures.row width parts.1))

pub returns-clause-value : goal.returns-clause-value
returns-clause-value t c below =
    let front = c.split_at.result.0.now in
    let back = c.split_at.result.1.now in
    IfOk-weaker c.merged.result (λ row. row_value ops below row.items ≡ ops.plus (row_value ops below c.deref.result.now) (row_value ops below c.deref-2.result.now)) (λ row. row_value ops below row.items ≡ products_value ops below c.args.products.now)
    (λ row e. e ∙ value-of-halves ops ring below (length c.args.products.now / 2) c.args.products.now front back (row_value ops below c.deref.result.now) (row_value ops below c.deref-2.result.now) c.split_at.ensures.front c.split_at.ensures.back
    (ap (row_value ops below) c.deref.ensures.value ∙ c.in_ok-left.ensures.value below) (ap (row_value ops below) c.deref-2.ensures.value ∙ c.in_ok-right.ensures.value below)) (c.merged.ensures.value below)

pub returns-in_err-left-clause-row : goal.returns-in_err-left-clause-row
returns-in_err-left-clause-row t c = λ width h. IfOk-from_err _ _ c.from_residual.ensures.0

pub returns-in_err-left-clause-value : goal.returns-in_err-left-clause-value
returns-in_err-left-clause-value t c = λ below. IfOk-from_err _ _ c.from_residual.ensures.0

pub returns-in_err-left-clause-short : goal.returns-in_err-left-clause-short
returns-in_err-left-clause-short t c = IfOk-from_err _ _ c.from_residual.ensures.0

pub returns-in_err-left-clause-one : goal.returns-in_err-left-clause-one
returns-in_err-left-clause-one t c = λ same. IfOk-from_err _ _ c.from_residual.ensures.0

pub returns-in_err-right-clause-row : goal.returns-in_err-right-clause-row
returns-in_err-right-clause-row t c = λ width h. IfOk-from_err _ _ c.from_residual-in_err-right.ensures.0

pub returns-in_err-right-clause-value : goal.returns-in_err-right-clause-value
returns-in_err-right-clause-value t c = λ below. IfOk-from_err _ _ c.from_residual-in_err-right.ensures.0

pub returns-in_err-right-clause-short : goal.returns-in_err-right-clause-short
returns-in_err-right-clause-short t c = IfOk-from_err _ _ c.from_residual-in_err-right.ensures.0

pub returns-in_err-right-clause-one : goal.returns-in_err-right-clause-one
returns-in_err-right-clause-one t c = λ same. IfOk-from_err _ _ c.from_residual-in_err-right.ensures.0

pub returns-then-products-le-FEW-clause-row : goal.returns-then-products-le-FEW-clause-row
returns-then-products-le-FEW-clause-row t c = c.row_of_few.ensures.row

pub returns-then-products-le-FEW-clause-value : goal.returns-then-products-le-FEW-clause-value
returns-then-products-le-FEW-clause-value t c = c.row_of_few.ensures.value

pub returns-then-products-le-FEW-clause-short : goal.returns-then-products-le-FEW-clause-short
returns-then-products-le-FEW-clause-short t c = c.row_of_few.ensures.short

pub returns-then-products-le-FEW-clause-one : goal.returns-then-products-le-FEW-clause-one
returns-then-products-le-FEW-clause-one t c = c.row_of_few.ensures.one
