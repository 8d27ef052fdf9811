use Rattle.lzk_calls.specs.Explained.{IsRefused}
use Rattle.lzk_calls.proofs.Zips.{IsDone}
use Rattle.lzk_calls.proofs.jobs.refuse_each.Given as goal

abbrev pub invariant-loop-i : goal.invariant-loop-i
invariant-loop-i l = IsDone (IsRefused l.fn.refusal) l.i l.fn.jobs l.jobs
