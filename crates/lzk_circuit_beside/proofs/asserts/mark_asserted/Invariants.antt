use Rattle.std.proofs.Common.{◌≡◌, ℕ, ◌+◌, ◌<◌, length, drop}
use Rattle.std.specs.Prelude.{◌||◌}
use Rattle.lzk_circuit_reduce.specs.Marks.{is_marked}
use Rattle.lzk_circuit_beside.specs.Asserts.{is_asserted}
use Rattle.lzk_circuit_beside.proofs.asserts.mark_asserted.Given as goal

abbrev pub invariant-loop-i : goal.invariant-loop-i
invariant-loop-i g l = record {
  count : length l.marks.items ≡ length l.fn.marks.items;
  before : (k : ℕ) → k < l.start → is_marked l.marks.items k ≡ is_marked l.fn.marks.items k;
  own : (k : ℕ) → is_marked l.marks.items (l.start + k) ≡ (is_asserted g.F.Field.coding.number (drop l.i l.terms) k || is_marked l.fn.marks.items (l.start + k));
}
