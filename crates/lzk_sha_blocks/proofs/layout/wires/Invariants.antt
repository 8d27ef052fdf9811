use Rattle.std.proofs.Common.{◌≡◌, ◌++◌, map}
use Rattle.std.specs.List.{range_with_len}
use Rattle.lzk_sha_blocks.specs.Layout.{public_wire, private_wire, public_wires}
use Rattle.lzk_sha_blocks.proofs.layout.wires.Given as goal

abbrev pub invariant-loop-k : goal.invariant-loop-k
invariant-loop-k l = l.wires.items ≡ map (public_wire l.block.len l.block.i) (range_with_len 0 l.k)

abbrev pub invariant-loop-j : goal.invariant-loop-j
invariant-loop-j l = l.wires.items ≡ public_wires l.block.len l.block.i ++ map (private_wire l.block.len l.block.i) (range_with_len 0 l.j)
