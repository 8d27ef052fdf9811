use Rattle.lzk_accept.proofs.TableLaws.{IsLessenedTo}
use Rattle.lzk_accept.proofs.tables.lessen_pairs.Given as goal

abbrev pub invariant-loop-i : goal.invariant-loop-i
invariant-loop-i g l = IsLessenedTo g.F.Field.ops l.fn.table l.size l.i l.table
