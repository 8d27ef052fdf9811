use Rattle.std.proofs.Common.{◌≡◌, length}
use Rattle.lzk_mle.proofs.LoopStates.{IsBoundUpTo}
use Rattle.lzk_sumcheck_rounds.proofs.kept.bind_table.Given as goal

abbrev pub invariant-loop-i : goal.invariant-loop-i
invariant-loop-i g l = let o = g.F.Field.ops in (length l.table ≡ length l.fn.table) × IsBoundUpTo o l.fn.x l.fn.table l.i l.table
