use Rattle.std.proofs.Common.{◌∙◌, subst}
use Rattle.lzk_level.specs.Bounds.{IsFaultOf}
use Rattle.lzk_level.specs.CompiledCode.{limit_of}
use Rattle.lzk_level.proofs.CompiledLaws.{gold-compiled, gf-compiled, gold-limit, gf-limit, gold-within, gf-within, handed_on}
use Rattle.std.proofs.lemmas.Result.{IfOk-from_err}
use Rattle.lzk_level.proofs.compiling.compile_code.Goals as goal

pub returns-in_ok-compile_over-in-Goldilocks-clause-circuit : goal.returns-in_ok-compile_over-in-Goldilocks-clause-circuit
returns-in_ok-compile_over-in-Goldilocks-clause-circuit c = λ source is. gold-compiled c.args.version source c.in_ok-compile_over-in-Goldilocks.field-0 (c.in-Goldilocks.ensures ∙ is.field_is) (c.in_ok-compile_over-in-Goldilocks.ensures.circuit source is)

pub returns-in_ok-compile_over-in-Goldilocks-clause-within : goal.returns-in_ok-compile_over-in-Goldilocks-clause-within
returns-in_ok-compile_over-in-Goldilocks-clause-within c = λ source is. gold-within c.args.version source c.in_ok-compile_over-in-Goldilocks.field-0 (c.in-Goldilocks.ensures ∙ is.field_is) (c.in_ok-compile_over-in-Goldilocks.ensures.circuit source is)

pub returns-in_err-compile_over-in-Goldilocks-clause-fault : goal.returns-in_err-compile_over-in-Goldilocks-clause-fault
returns-in_err-compile_over-in-Goldilocks-clause-fault c = λ source is.
    let e = c.in_err-compile_over-in-Goldilocks.field-0.0 in
    handed_on c.from_residual.result (IsFaultOf (limit_of c.args.version source)) e c.from_residual.ensures.1
    (subst (λ l. IsFaultOf l e) (gold-limit c.args.version source (c.in-Goldilocks.ensures ∙ is.field_is)) (c.in_err-compile_over-in-Goldilocks.ensures.fault source is))

pub returns-in_ok-compile_over-in-Gf2_128-clause-circuit : goal.returns-in_ok-compile_over-in-Gf2_128-clause-circuit
returns-in_ok-compile_over-in-Gf2_128-clause-circuit c = λ source is. gf-compiled c.args.version source c.in_ok-compile_over-in-Gf2_128.field-0 (c.in-Gf2_128.ensures ∙ is.field_is) (c.in_ok-compile_over-in-Gf2_128.ensures.circuit source is)

pub returns-in_ok-compile_over-in-Gf2_128-clause-within : goal.returns-in_ok-compile_over-in-Gf2_128-clause-within
returns-in_ok-compile_over-in-Gf2_128-clause-within c = λ source is. gf-within c.args.version source c.in_ok-compile_over-in-Gf2_128.field-0 (c.in-Gf2_128.ensures ∙ is.field_is) (c.in_ok-compile_over-in-Gf2_128.ensures.circuit source is)

pub returns-in_err-compile_over-in-Gf2_128-clause-fault : goal.returns-in_err-compile_over-in-Gf2_128-clause-fault
returns-in_err-compile_over-in-Gf2_128-clause-fault c = λ source is.
    let e = c.in_err-compile_over-in-Gf2_128.field-0.0 in
    handed_on c.from_residual-in_err-compile_over-in-Gf2_128.result (IsFaultOf (limit_of c.args.version source)) e c.from_residual-in_err-compile_over-in-Gf2_128.ensures.1
    (subst (λ l. IsFaultOf l e) (gf-limit c.args.version source (c.in-Gf2_128.ensures ∙ is.field_is)) (c.in_err-compile_over-in-Gf2_128.ensures.fault source is))

pub returns-in_err-compile_over-in-Goldilocks-clause-circuit : goal.returns-in_err-compile_over-in-Goldilocks-clause-circuit
returns-in_err-compile_over-in-Goldilocks-clause-circuit c source is = IfOk-from_err _ _ c.from_residual.ensures.0

pub returns-in_err-compile_over-in-Goldilocks-clause-within : goal.returns-in_err-compile_over-in-Goldilocks-clause-within
returns-in_err-compile_over-in-Goldilocks-clause-within c source is = IfOk-from_err _ _ c.from_residual.ensures.0

pub returns-in_err-compile_over-in-Gf2_128-clause-circuit : goal.returns-in_err-compile_over-in-Gf2_128-clause-circuit
returns-in_err-compile_over-in-Gf2_128-clause-circuit c source is = IfOk-from_err _ _ c.from_residual-in_err-compile_over-in-Gf2_128.ensures.0

pub returns-in_err-compile_over-in-Gf2_128-clause-within : goal.returns-in_err-compile_over-in-Gf2_128-clause-within
returns-in_err-compile_over-in-Gf2_128-clause-within c source is = IfOk-from_err _ _ c.from_residual-in_err-compile_over-in-Gf2_128.ensures.0
