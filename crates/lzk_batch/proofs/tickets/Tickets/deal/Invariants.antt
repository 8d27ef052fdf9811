use Rattle.std.proofs.Common.{◌-◌, length}
use Rattle.lzk_batch.proofs.Dealing.{Dealt}
use Rattle.lzk_batch.proofs.tickets.Tickets.deal.Given as goal

abbrev pub invariant-loop-passes : goal.invariant-loop-passes
invariant-loop-passes l = Dealt l.workers l.initial.first.table l.first l.passes.items

abbrev pub decreases-loop-passes : goal.decreases-loop-passes
decreases-loop-passes l = l.workers - length l.passes.items
