use Rattle.lzk_mle.proofs.LoopStates.{IsBoundUpTo}
use Rattle.lzk_plain.proofs.binding.bind_first.Given as goal

abbrev pub invariant-loop-i : goal.invariant-loop-i
invariant-loop-i g l = let o = g.F.Field.ops in IsBoundUpTo o l.fn.r l.fn.table l.i l.table
