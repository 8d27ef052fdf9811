use Rattle.lzk_accept.proofs.CombinationLaws.{IsAddedTo}
use Rattle.lzk_accept.proofs.combination.add_range.Given as goal

abbrev pub invariant-loop-j : goal.invariant-loop-j
invariant-loop-j g l = IsAddedTo g.F.Field.ops l.by l.range.list.now l.fn.sums l.range.start l.range.skip l.j l.sums
