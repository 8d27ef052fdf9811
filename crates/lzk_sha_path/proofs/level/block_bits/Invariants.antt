use Rattle.std.proofs.Common.{◌≡◌, ℕ, map}
use Rattle.std.specs.List.{range_with_len}
use Rattle.lzk_sha_circuit.specs.declared.bit.Bit.TheVariants.{Input}
use Rattle.lzk_sha_path.proofs.level.block_bits.Given as goal

abbrev pub invariant-loop-j : goal.invariant-loop-j
invariant-loop-j l = l.bits.items ≡ map (λ (j : ℕ). Input j) (range_with_len 0 l.j)
