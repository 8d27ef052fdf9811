use Rattle.std.proofs.Common.{◌≢◌, ◌<◌, ℕ}
use Rattle.std.specs.Prelude.{slice_index_or}
use Rattle.lzk_batch.specs.declared.job.Judged.{Judged}
use Rattle.lzk_batch.proofs.order.verdict_in.Given as goal

abbrev pub invariant-loop-judged : goal.invariant-loop-judged
invariant-loop-judged l = (k : ℕ) (d : Judged) → k < l.judged-index → (slice_index_or l.list k d).job ≢ l.number
