use Rattle.std.proofs.Common.{◌<◌, ℕ}
use Rattle.std.specs.Prelude.{slice_index_or}
use Rattle.lzk_batch.specs.declared.job.Job.{Job}
use Rattle.lzk_batch.specs.Batch.{IsJobFit}
use Rattle.lzk_tests_protocol.proofs.batch.jobs.are_fit.Given as goal

abbrev pub invariant-loop-job : goal.invariant-loop-job
invariant-loop-job l = (k : ℕ) (d : Job) → k < l.job-index → IsJobFit l.circuits (slice_index_or l.jobs k d)
