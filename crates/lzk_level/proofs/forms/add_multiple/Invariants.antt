use Rattle.std.proofs.Common.{◌≡◌, ℕ, List, ◌+◌, ◌≤◌, length, take}
use Rattle.lzk_circuit_reduce.specs.Rows.{IsRow, AreUnder, row_value}
use Rattle.lzk_level.proofs.forms.add_multiple.Given as goal

abbrev pub invariant-loop-i : goal.invariant-loop-i
invariant-loop-i g l = record {
  row : (width : ℕ) → IsRow g.F.Field.ops width l.fn.row.items → IsRow g.F.Field.ops width l.part → IsRow g.F.Field.ops width l.row.items;
  value : (below : List _) → row_value g.F.Field.ops below l.row.items ≡ g.F.Field.ops.plus (row_value g.F.Field.ops below l.fn.row.items) (g.F.Field.ops.times l.factor (row_value g.F.Field.ops below (take l.i l.part)));
  short : length l.row.items ≤ length l.fn.row.items + l.i;
  under : (ns : List ℕ) (d : ℕ) → AreUnder ns d l.fn.row.items → AreUnder ns d l.part → AreUnder ns d l.row.items;
}
