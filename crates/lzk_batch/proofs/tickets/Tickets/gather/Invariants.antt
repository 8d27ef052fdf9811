use Rattle.lzk_batch.proofs.Dealing.{Gathered}
use Rattle.lzk_batch.proofs.tickets.Tickets.gather.Given as goal

abbrev pub invariant-loop-pass : goal.invariant-loop-pass
invariant-loop-pass l = Gathered l.self l.fn.passes.items l.passes.items l.all

abbrev pub decreases-loop-pass : goal.decreases-loop-pass
decreases-loop-pass l = goal.left-loop-pass l
