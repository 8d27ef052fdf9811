use Rattle.lzk_gf128.proofs.Multiples.{InWords}
use Rattle.lzk_gf128.proofs.arith.Table.of.Given as goal

abbrev pub invariant-loop-i : goal.invariant-loop-i
invariant-loop-i l = InWords l.fn.all l.i l.table.low l.table.high
