use Rattle.std.proofs.Common.{◌≡◌, map}
use Rattle.std.specs.List.{range_with_len}
use Rattle.lzk_sha_blocks.specs.Layout.{block_bit}
use Rattle.lzk_sha_blocks.proofs.given.block_bits.Given as goal

abbrev pub invariant-loop-j : goal.invariant-loop-j
invariant-loop-j l = l.bits.items ≡ map (block_bit l.block.len l.block.i) (range_with_len 0 l.j)
