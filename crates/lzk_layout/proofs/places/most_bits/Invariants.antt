use Rattle.lzk_profile.specs.Profile.{most_bits}
use Rattle.std.proofs.Common.{ℕ, ◌<◌, ◌≤◌}
use Rattle.lzk_circuit.specs.Bits.{bits}
use Rattle.lzk_layout.specs.Places.{width_at}
use Rattle.lzk_layout.proofs.places.most_bits.Given as goal

abbrev pub invariant-loop-l : goal.invariant-loop-l
invariant-loop-l g l = record {
  most : (k : ℕ) → k < l.l → bits (width_at l.circuit k) ≤ l.most;
  least : (n : ℕ) → ((k : ℕ) → k < l.l → bits (width_at l.circuit k) ≤ n) → l.most ≤ n;
  few : l.most ≤ most_bits;
}
