use Rattle.std.proofs.Common.{subst}
use Rattle.lzk_batch.specs.Batch.{IsJobFit}
use Rattle.lzk.proofs.Jobs.{fit_more}
use Rattle.lzk.proofs.fit.are_fit.Goals as goal

pub loop-job-preserved : goal.loop-job-preserved
loop-job-preserved c =
    fit_more c.args.circuits.now c.args.jobs.now c.loop-job.job-index c.job-item.result c.loop-job-test.true c.loop-job.invariant (subst (IsJobFit c.args.circuits.now) c.job-item.is (c.is_fit.ensures.0 c.if-not-is_fit.false))
