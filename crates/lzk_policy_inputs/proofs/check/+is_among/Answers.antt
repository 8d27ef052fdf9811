use Rattle.std.proofs.Common.{◌∙◌}
use Rattle.lzk_policy_inputs.proofs.Among.{among_later, is_other}
use Rattle.lzk_policy_inputs.proofs.check.+is_among.Goals as goal

pub returns-else-eq : goal.returns-else-eq
returns-else-eq t c =
    let step = among_later c.in-Some.text.now c.args.bytes.now c.in-Some.others.now c.args.texts.now c.in-Some.ensures.cases.0 (λ e. is_other c.eq.result c.text.result.now c.args.bytes.now c.eq.ensures c.if-eq.false (c.text.ensures.text ∙ e)) in
    (λ h. step.0 (c.is_among.ensures.0 h), λ k. c.is_among.ensures.1 (step.1 k))
