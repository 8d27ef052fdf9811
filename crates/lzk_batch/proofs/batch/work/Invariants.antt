use Rattle.std.proofs.Common.{◌≡◌, ◌-◌}
use Rattle.lzk_batch.proofs.Working.{Working, bound}
use Rattle.lzk_batch.proofs.batch.work.Given as goal

abbrev pub invariant-loop-number : goal.invariant-loop-number
invariant-loop-number l = record { working : Working l.batch.circuits.now l.batch.jobs.now l.batch.tickets.now l.fn.pass l.pass l.judged.items; desks : l.desks ≡ l.batch.circuits.now }

abbrev pub decreases-loop-number : goal.decreases-loop-number
decreases-loop-number l = l.batch.tickets.now.jobs - bound l.pass.drawn
