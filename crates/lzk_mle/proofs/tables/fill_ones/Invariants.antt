use Rattle.lzk_mle.proofs.LoopStates.{IsFilledTo}
use Rattle.lzk_mle.proofs.tables.fill_ones.Given as goal

abbrev pub invariant-loop-i : goal.invariant-loop-i
invariant-loop-i g l = let o = g.F.Field.ops in IsFilledTo o l.x l.low l.i l.high
