use Rattle.std.proofs.Common.{◌≡◌, ◌∙◌, [], map, ap, arith}
use Rattle.std.specs.List.{range_with_len}
use Rattle.lzk_sha_circuit.proofs.Written.{entry_more}
use Rattle.lzk_sha_blocks.specs.Layout.{block_bit, block_bits}
use Rattle.lzk_sha_blocks.proofs.given.block_bits.Goals as goal

pub loop-j-preserved : goal.loop-j-preserved
loop-j-preserved c = entry_more (block_bit c.args.block.len c.args.block.i) [] c.loop-j.bits.items c.push.new.self.items c.block_bit.result c.loop-j.j c.loop-j.invariant c.in_ok-push.ensures.items c.block_bit.ensures

pub returns : goal.returns
unfolding block_bits
returns c =
    let e : c.loop-j.j ≡ 512 = omega arith in
    c.loop-j.invariant ∙ ap (λ n. map (block_bit c.args.block.len c.args.block.i) (range_with_len 0 n)) e
