use Rattle.std.proofs.Common.{drop}
use Rattle.lzk_mle.proofs.LoopStates.{IsLeft}
use Rattle.lzk_plain.proofs.binding.tilde.Given as goal

abbrev pub invariant-loop-x : goal.invariant-loop-x
invariant-loop-x g l = let o = g.F.Field.ops in IsLeft o l.values l.r (drop l.x-index l.r) l.size l.room
