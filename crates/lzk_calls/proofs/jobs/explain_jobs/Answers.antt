use Rattle.std.proofs.Common.{inl, inr, refl}
use Rattle.lzk_calls.specs.Verified.{Says, SaysOf}
use Rattle.lzk_calls.proofs.Explaining.{explained-as, refused-as}
use Rattle.lzk_calls.proofs.jobs.explain_jobs.Goals as goal

pub returns-in-Ok : goal.returns-in-Ok
returns-in-Ok c =
    explained-as (SaysOf c.in-Ok.any) (Says c.args.circuit.now) (λ public session proof told says. inr (c.in-Ok.any, c.in-Ok.ensures.circuit, says))
    c.args.jobs.now c.explain_any.new.jobs c.explain_any.ensures

pub returns-in-Err : goal.returns-in-Err
returns-in-Err c =
    refused-as c.in-Err.refusal (Says c.args.circuit.now) (λ public session proof. inl (c.in-Err.refusal, refl, c.in-Err.ensures.refused))
    c.args.jobs.now c.refuse_each.new.jobs c.refuse_each.ensures
