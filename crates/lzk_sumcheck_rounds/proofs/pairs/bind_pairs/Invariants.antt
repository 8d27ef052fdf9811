use Rattle.std.proofs.Common.{map}
use Rattle.lzk_sumcheck_rounds.specs.Pairs.{bind_pair}
use Rattle.lzk_sumcheck_rounds.proofs.MergeLaws.{IsMerged}
use Rattle.lzk_sumcheck_rounds.proofs.pairs.bind_pairs.Given as goal

abbrev pub invariant-loop-i : goal.invariant-loop-i
invariant-loop-i g l = let o = g.F.Field.ops in IsMerged o (map (bind_pair o l.x) l.fn.pairs) l.fn.pairs l.i l.kept l.pairs
