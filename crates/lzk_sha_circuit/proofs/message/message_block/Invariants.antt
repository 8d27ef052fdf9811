use Rattle.std.proofs.Common.{◌≡◌, map}
use Rattle.std.specs.List.{range_with_len}
use Rattle.lzk_sha_circuit.specs.Places.{message_bit}
use Rattle.lzk_sha_circuit.proofs.message.message_block.Given as goal

abbrev pub invariant-loop-j : goal.invariant-loop-j
invariant-loop-j l = l.bits.items ≡ map (message_bit l.message.len) (range_with_len 0 l.j)
