use Rattle.std.proofs.Common.{◌≡◌, ℕ, map, take}
use Rattle.lzk_circuit_reduce.specs.InOrder.{over_numbers}
use Rattle.lzk_circuit_reduce.specs.Renumbering.{AreNumbersBelow}
use Rattle.lzk_circuit_reduce.specs.Rows.{IsRow}
use Rattle.lzk_circuit_reduce.proofs.in_order.in_order.Given as goal

abbrev pub invariant-loop-i : goal.invariant-loop-i
invariant-loop-i g l = (l.row.items ≡ map (over_numbers l.numbers) (take l.i l.terms)) × ((width : ℕ) → AreNumbersBelow width l.numbers → IsRow g.F.Field.ops width l.row.items)
