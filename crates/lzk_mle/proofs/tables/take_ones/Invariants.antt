use Rattle.lzk_mle.proofs.LoopStates.{IsTakenTo}
use Rattle.lzk_mle.proofs.tables.take_ones.Given as goal

abbrev pub invariant-loop-i : goal.invariant-loop-i
invariant-loop-i g l = let o = g.F.Field.ops in IsTakenTo o l.fn.low l.high l.i l.low
