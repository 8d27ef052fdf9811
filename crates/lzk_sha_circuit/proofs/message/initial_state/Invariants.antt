use Rattle.std.proofs.Common.{◌≡◌, ℕ, ◌-◌, ◌/◌, ◌%◌, map, slice_index}
use Rattle.std.specs.List.{range_with_len}
use Rattle.std.specs.Int.{bit_at}
use Rattle.sha2.specs.Sha256.{initial_hash_256}
use Rattle.lzk_sha_circuit.specs.Places.{bit_constant}
use Rattle.lzk_sha_circuit.proofs.message.initial_state.Given as goal

abbrev pub invariant-loop-j : goal.invariant-loop-j
invariant-loop-j l = l.bits.items ≡ map (λ (i : ℕ). bit_constant (bit_at (slice_index initial_hash_256 (i / 32)) (31 - i % 32))) (range_with_len 0 l.j)
