use Rattle.std.proofs.Common.{◌≡◌, ℕ, map}
use Rattle.std.specs.List.{range_with_len}
use Rattle.lzk_sha_circuit.specs.Places.{bit_constant}
use Rattle.lzk_sha_path.proofs.NodeBits.{node_number}
use Rattle.lzk_sha_path.proofs.level.node_bits.Given as goal

abbrev pub invariant-loop-j : goal.invariant-loop-j
invariant-loop-j l = l.bits.items ≡ map (λ (i : ℕ). bit_constant (node_number i)) (range_with_len 0 l.j)
