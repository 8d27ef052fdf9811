use Rattle.std.proofs.Common.{◌≡◌, ◌++◌, drop}
use Rattle.lzk_source.specs.NameLists.{bytes_of}
use Rattle.lzk_expr.specs.Printing.{public_names, private_names, let_names}
use Rattle.lzk_expr.specs.View.{statements_of}
use Rattle.lzk_source.proofs.printing.name_lists.Given as goal

abbrev pub invariant-loop-i : goal.invariant-loop-i
invariant-loop-i l = record {
  publics : bytes_of l.names.publics.items ++ public_names (statements_of (drop l.i l.statements)) ≡ public_names (statements_of l.statements);
  privates : bytes_of l.names.privates.items ++ private_names (statements_of (drop l.i l.statements)) ≡ private_names (statements_of l.statements);
  lets : bytes_of l.names.lets.items ++ let_names (statements_of (drop l.i l.statements)) ≡ let_names (statements_of l.statements);
}
