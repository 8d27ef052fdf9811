use Rattle.lzk_gadgets.proofs.TextLaws.{Reading}
use Rattle.lzk_gadgets.proofs.statement.Statement.bytes.Given as goal

abbrev pub invariant-loop-k : goal.invariant-loop-k
invariant-loop-k l = Reading l.fn.self l.self l.bits l.k l.nodes.items
