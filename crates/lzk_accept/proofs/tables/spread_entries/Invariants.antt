use Rattle.lzk_accept.proofs.TableLaws.{IsSpreadFrom}
use Rattle.lzk_accept.proofs.tables.spread_entries.Given as goal

abbrev pub invariant-loop-i : goal.invariant-loop-i
invariant-loop-i g l = IsSpreadFrom g.F.Field.ops l.x l.fn.table l.size l.i l.table
