use Rattle.std.proofs.Common.{◌≡◌, ℕ, List, ◌≤◌, length, take}
use Rattle.lzk_circuit_reduce.specs.Rows.{IsRow, AreUnder, row_value}
use Rattle.lzk_level.specs.Wires.{CarryTerms}
use Rattle.lzk_level.proofs.wires.add_terms.Given as goal

abbrev pub invariant-loop-term : goal.invariant-loop-term
invariant-loop-term g l = record {
  row : (width : ℕ) → AreUnder l.numbers width l.form → IsRow g.F.Field.ops width l.row.items;
  value : (values wires : List _) → CarryTerms g.F.Field.ops l.numbers values wires l.form → row_value g.F.Field.ops wires l.row.items ≡ row_value g.F.Field.ops values (take l.term-index l.form);
  short : length l.row.items ≤ l.term-index;
}
