use Rattle.std.proofs.Common.{◌∙◌, arith}
use Rattle.std.proofs.lemmas.Result.{IfOk-from_err}
use Rattle.lzk_batch.proofs.Sharing.{draws_none, returned_jobs, returned_verdicts, returned_late}
use Rattle.lzk_batch.proofs.Placing.{still_all}
use Rattle.lzk_batch.proofs.batch.verify_batch.Goals as goal

pub returns-in_err-ids-clause-draws : goal.returns-in_err-ids-clause-draws
returns-in_err-ids-clause-draws g c = draws_none c.args.passes.now

pub returns-clause-jobs : goal.returns-clause-jobs
returns-clause-jobs g c = returned_jobs c.args.circuits.now c.args.jobs.now c.args.passes.now c.share_out.new.passes c.share_out.result c.share_out.ensures.worked

pub returns-clause-verdicts : goal.returns-clause-verdicts
returns-clause-verdicts g c = returned_verdicts c.args.circuits.now c.args.jobs.now c.args.passes.now c.share_out.new.passes c.share_out.result c.share_out.ensures.worked

pub returns-clause-late : goal.returns-clause-late
returns-clause-late g c = returned_late c.args.circuits.now c.args.jobs.now c.args.tickets.now c.args.passes.now c.share_out.new.passes c.share_out.result c.requires.dealt c.requires.open c.share_out.ensures.worked

pub returns-clause-all : goal.returns-clause-all
returns-clause-all g c = still_all c.args.tickets.now c.args.passes.now c.share_out.new.passes c.share_out.ensures.draws

pub invariant_of-team : goal.invariant_of-team
invariant_of-team g c = record { of_circuits = c.deref.ensures.value ∙ c.in_ok-ids.ensures; dealt = c.requires.dealt }

pub share_out-requires-clause-ready : goal.share_out-requires-clause-ready
share_out-requires-clause-ready g c κs within = record { fit = c.requires.fit; of = c.requires.of; still = c.requires.open }

pub share_out-requires-clause-some : goal.share_out-requires-clause-some
share_out-requires-clause-some g c κs within = c.requires.some

pub share_out-requires-clause-few : goal.share_out-requires-clause-few
share_out-requires-clause-few g c κs within = omega (arith, c.requires.few)

pub returns-in_err-ids-clause-jobs : goal.returns-in_err-ids-clause-jobs
returns-in_err-ids-clause-jobs g c = IfOk-from_err _ _ c.from_residual.ensures.0

pub returns-in_err-ids-clause-verdicts : goal.returns-in_err-ids-clause-verdicts
returns-in_err-ids-clause-verdicts g c = IfOk-from_err _ _ c.from_residual.ensures.0

pub returns-in_err-ids-clause-late : goal.returns-in_err-ids-clause-late
returns-in_err-ids-clause-late g c = IfOk-from_err _ _ c.from_residual.ensures.0

pub returns-in_err-ids-clause-all : goal.returns-in_err-ids-clause-all
returns-in_err-ids-clause-all g c = λ all. all

pub returns-clause-draws : goal.returns-clause-draws
returns-clause-draws g c = c.share_out.ensures.draws
