use Rattle.std.proofs.Common.{drop}
use Rattle.lzk_source.specs.NameLists.{lists_of}
use Rattle.lzk_expr.specs.View.{tree_of}
use Rattle.lzk_source.proofs.PrintLaws.{LinesLeft}
use Rattle.lzk_source.proofs.printing.print.Given as goal

abbrev pub invariant-loop-i : goal.invariant-loop-i
invariant-loop-i l = LinesLeft (tree_of l.source) (lists_of l.names) (drop l.i l.statements) l.text
