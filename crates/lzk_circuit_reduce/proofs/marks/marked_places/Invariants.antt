use Rattle.std.proofs.Common.{◌≡◌, ℕ, ◌<◌, ◌≤◌, length}
use Rattle.lzk_circuit_reduce.specs.Renumbering.{at}
use Rattle.lzk_circuit_reduce.specs.Marks.{marked_before}
use Rattle.lzk_circuit_reduce.proofs.marks.marked_places.Given as goal

abbrev pub invariant-loop-k : goal.invariant-loop-k
invariant-loop-k l = record {
  next_is : l.next ≡ marked_before l.marks l.k;
  count : length l.places.items ≡ l.k;
  each : (j : ℕ) → j < l.k → at l.places.items j ≡ marked_before l.marks j;
  room : length l.marks ≤ l.places.cap;
}
