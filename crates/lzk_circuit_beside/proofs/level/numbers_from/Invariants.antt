use Rattle.std.proofs.Common.{◌≡◌, ℕ, ◌+◌, ◌<◌, length}
use Rattle.lzk_circuit_reduce.specs.Renumbering.{at}
use Rattle.lzk_circuit_beside.proofs.level.numbers_from.Given as goal

abbrev pub invariant-loop-k : goal.invariant-loop-k
invariant-loop-k l = record {
  count : length l.numbers.items ≡ l.k;
  each : (i : ℕ) → i < l.k → at l.numbers.items i ≡ l.start + i;
}
