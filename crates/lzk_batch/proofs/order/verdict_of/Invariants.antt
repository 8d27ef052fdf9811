use Rattle.std.proofs.Common.{All, ◌≢◌, ◌<◌, ℕ, Vec, Global}
use Rattle.std.specs.Prelude.{slice_index_or}
use Rattle.lzk_batch.specs.declared.job.Judged.{Judged}
use Rattle.lzk_batch.proofs.order.verdict_of.Given as goal

abbrev pub invariant-loop-list : goal.invariant-loop-list
invariant-loop-list l = (k : ℕ) (d : Vec Judged Global) → k < l.list-index → All (λ judged. judged.job ≢ l.number) (slice_index_or l.lists k d).items
