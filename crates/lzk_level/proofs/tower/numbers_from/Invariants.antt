use Rattle.std.proofs.Common.{◌≡◌, ℕ, ◌+◌, ◌<◌, ◌≤◌, length}
use Rattle.lzk_circuit_reduce.specs.Renumbering.{at}
use Rattle.lzk_level.proofs.tower.numbers_from.Given as goal

abbrev pub invariant-loop-i : goal.invariant-loop-i
invariant-loop-i l = record { count : length l.numbers.items ≡ l.i; each : (k : ℕ) → k < l.i → at l.numbers.items k ≡ l.first + k; room : l.count ≤ l.numbers.cap }
