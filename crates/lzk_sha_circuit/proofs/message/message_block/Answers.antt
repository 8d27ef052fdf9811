use Rattle.std.proofs.Common.{◌≡◌, ◌∙◌, [], map, ap, arith}
use Rattle.std.specs.List.{range_with_len}
use Rattle.lzk_sha_circuit.specs.Places.{message_bit, message_block}
use Rattle.lzk_sha_circuit.proofs.Written.{entry_more}
use Rattle.lzk_sha_circuit.proofs.message.message_block.Goals as goal

pub loop-j-preserved : goal.loop-j-preserved
loop-j-preserved c = entry_more (message_bit c.args.message.len) [] c.loop-j.bits.items c.push.new.self.items c.message_bit.result c.loop-j.j c.loop-j.invariant c.in_ok-push.ensures.items c.message_bit.ensures

pub returns : goal.returns
unfolding message_block
returns c =
    let e : c.loop-j.j ≡ 512 = omega arith in
    c.loop-j.invariant ∙ ap (λ n. map (message_bit c.args.message.len) (range_with_len 0 n)) e
