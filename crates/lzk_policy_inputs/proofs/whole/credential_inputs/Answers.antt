use Rattle.std.proofs.Common.{◌≡◌, arith, sym, subst, length}
use Rattle.lzk_policy_inputs.specs.Placed.{IsCredentialRefusal}
use Rattle.lzk_policy_inputs.proofs.Refusing.{refused_alone}
use Rattle.lzk_policy_inputs.proofs.Under.{if_err}
use Rattle.lzk_policy_inputs.proofs.whole.credential_inputs.Goals as goal

pub returns-in_err-inputs-clause-refusal : goal.returns-in_err-inputs-clause-refusal
returns-in_err-inputs-clause-refusal c =
    let p = c.args.policy.now in
    let m = c.args.bytes.now in
    let vs = c.args.values.now in
    let n = c.args.place.now.index in
    let depth = length c.args.place.now.siblings.now in
    let same : depth ≡ p.depth = omega (arith, c.if-place-depth.false, c.depth-depth.ensures) in
    let none : depth ≡ 0 = omega (arith, same, c.depth-depth.ensures, c.if-depth-eq0.true) in
    if_err c.from_residual.result _ (IsCredentialRefusal p m vs n depth) c.from_residual.ensures.1
    (λ e g. subst (IsCredentialRefusal p m vs n depth) (sym g) (refused_alone p m vs n depth same _ none c.in_err-inputs.ensures.refusal))
