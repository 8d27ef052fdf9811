use Rattle.std.proofs.Common.{◌/◌, sym, subst, length, arith, rules}
use Rattle.lzk_level.specs.Wires.{IsFormRow}
use Rattle.lzk_level.proofs.NumberedLaws.{two-rows}
use Rattle.std.proofs.lemmas.Result.{IfOk-from_err}
use Rattle.lzk_level.proofs.wires.+form_row.Goals as goal

pub returns : goal.returns
returns g t c =
    let o = g.F.Field.ops in
    let numbers = c.args.numbers.now in
    let front = c.split_at.result.0.now in
    let back = c.split_at.result.1.now in
    let e = c.in_ok-sum.ensures in
    two-rows o g.F.Field.laws.ring numbers (length c.args.form.now / 2) c.args.form.now front back c.deref.result.now c.deref-2.result.now c.in_ok-sum.sum.items c.split_at.ensures.front c.split_at.ensures.back
    (subst (IsFormRow o numbers front) (sym c.deref.ensures.value) c.in_ok-form_row-2.ensures) (subst (IsFormRow o numbers back) (sym c.deref-2.ensures.value) c.in_ok-form_row.ensures) e.row e.value e.short

pub returns-in_err-add_terms : goal.returns-in_err-add_terms
returns-in_err-add_terms g t c = IfOk-from_err _ _ c.from_residual.ensures.0

pub returns-then-branch : goal.returns-then-branch
returns-then-branch g t c = c.in_ok-add_terms.ensures.all c.if-branch.true

pub split_at-requires : goal.split_at-requires
split_at-requires g t c = omega arith

pub returns-in_err-form_row : goal.returns-in_err-form_row
returns-in_err-form_row g t c = IfOk-from_err _ _ c.from_residual-in_err-form_row.ensures.0

pub returns-in_err-left : goal.returns-in_err-left
returns-in_err-left g t c = IfOk-from_err _ _ c.from_residual-in_err-left.ensures.0

pub returns-in_err-form_row-2 : goal.returns-in_err-form_row-2
returns-in_err-form_row-2 g t c = IfOk-from_err _ _ c.from_residual-in_err-form_row-2.ensures.0

pub returns-in_err-sum : goal.returns-in_err-sum
returns-in_err-sum g t c = IfOk-from_err _ _ c.from_residual-in_err-sum.ensures.0

pub form_row-requires : goal.form_row-requires
form_row-requires g t c κs within = (omega (arith, c.decreases, c.split_at.ensures.back_len, c.in_ok-add_terms.ensures.many c.if-branch.false), (within, (search rules, search rules)))

pub form_row-requires-2 : goal.form_row-requires-2
form_row-requires-2 g t c κs within = (omega (arith, c.decreases, c.split_at.ensures.front_len, c.in_ok-add_terms.ensures.many c.if-branch.false), (within, (search rules, search rules)))
