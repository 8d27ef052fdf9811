use Rattle.std.proofs.Common.{[], subst, ap, sym, ◌∙◌}
use Rattle.std.proofs.lemmas.Result.{IfOk-from_err}
use Rattle.lzk_circuit.specs.Valid.{Wiring}
use Rattle.lzk_verify.specs.Verdict.{IsVerdict, IsOnlyVerdict}
use Rattle.lzk_cmd_verify.proofs.verifying.verdict_on.Goals as goal

pub returns-clause-verdict : goal.returns-clause-verdict
returns-clause-verdict g c =
    let f = g.F.Field in
    let e = f.coding in
    subst (λ (w : Wiring _). IsVerdict f.ops e w [] c.args.publics.now c.args.bytes.now c.verify-verdict.result) c.in_ok-desk.ensures.circuit c.verify-verdict.ensures.verdict

pub returns-clause-one : goal.returns-clause-one
returns-clause-one g c =
    let f = g.F.Field in
    let e = f.coding in
    subst (λ (w : Wiring _). IsOnlyVerdict f.ops e w [] c.args.publics.now c.args.bytes.now c.verify-verdict.result) c.in_ok-desk.ensures.circuit c.verify-verdict.ensures.one

pub returns-in_err-desk-clause-verdict : goal.returns-in_err-desk-clause-verdict
returns-in_err-desk-clause-verdict g c = IfOk-from_err _ _ c.from_residual.ensures.0

pub returns-in_err-desk-clause-one : goal.returns-in_err-desk-clause-one
returns-in_err-desk-clause-one g c = IfOk-from_err _ _ c.from_residual.ensures.0

pub with_id-requires-clause-id : goal.with_id-requires-clause-id
with_id-requires-clause-id g c κs within = c.requires.id

pub verify-verdict-requires-clause-public : goal.verify-verdict-requires-clause-public
verify-verdict-requires-clause-public g c κs within = c.requires.publics ∙ ap (λ (w : Wiring _). w.publics) (sym c.in_ok-desk.ensures.circuit)
