use Rattle.std.proofs.Common.{◌≡◌, ◌≢◌, ℕ, ◌≤◌, List, [], ◌∷◌, length, take}
use Rattle.lzk_circuit.specs.declared.layer.Term.{Term}
use Rattle.lzk_circuit_reduce.specs.Renumbering.{at, AreNumbersBelow, AreCopies}
use Rattle.lzk_circuit_reduce.specs.Rows.{IsRow, row_value, ordered}
use Rattle.lzk_circuit_beside.proofs.row.set_row.Given as goal

abbrev pub invariant-loop-i : goal.invariant-loop-i
invariant-loop-i g l = record {
  row : (width : ℕ) → AreNumbersBelow width l.numbers → IsRow g.F.Field.ops width l.row.items;
  value : (old new : List g.row.F.Denot) → AreCopies g.F.Field.ops l.numbers old new → row_value g.F.Field.ops new l.row.items ≡ row_value g.F.Field.ops old (take l.i l.terms);
  short : length l.row.items ≤ l.i;
  alone : (t : Term g.row.F.Denot) → l.terms ≡ t ∷ [] → t.coef ≢ g.F.Field.ops.zero → l.row.items ≡ take l.i (ordered t.coef (at l.numbers t.a) (at l.numbers t.b) ∷ []);
}
