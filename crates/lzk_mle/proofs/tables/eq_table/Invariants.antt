use Rattle.std.proofs.Common.{take}
use Rattle.lzk_mle.proofs.LoopStates.{IsEqTable}
use Rattle.lzk_mle.proofs.tables.eq_table.Given as goal

abbrev pub invariant-loop-j : goal.invariant-loop-j
invariant-loop-j g l = let o = g.F.Field.ops in IsEqTable o (take l.j l.r) l.size l.out
