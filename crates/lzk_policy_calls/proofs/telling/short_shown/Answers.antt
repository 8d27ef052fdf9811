use Rattle.std.proofs.Common.{inl, inr}
use Rattle.lzk_policy_calls.specs.Telling.{LacksTold}
use Rattle.lzk_policy_calls.proofs.Long.{handed_refusal, not_long}
use Rattle.lzk_policy_calls.proofs.telling.short_shown.Goals as goal

pub returns-in_err-inputs-clause-refused : goal.returns-in_err-inputs-clause-refused
returns-in_err-inputs-clause-refused c =
    let g = c.args.given.now in
    handed_refusal (LacksTold g.policy.now g.record.now g.values.now g.secret.now g.path.now) c.from_residual-in_err-inputs.result c.in_err-inputs.field-0.0 c.from_residual-in_err-inputs.ensures.1
    (inl (inr (not_long g.values.now g.path.now c.requires.values c.requires.path, inr (c.in_ok-policy.policy, c.in_ok-policy.ensures.policy, c.in_err-inputs.ensures.refused))))
