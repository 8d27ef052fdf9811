use Rattle.std.proofs.Common.{◌≡◌, ◌-◌, ◌∙◌, ◌++◌, ap, map, arith}
use Rattle.std.specs.List.{range_with_len}
use Rattle.std.specs.Int.{bit_at}
use Rattle.lzk_goldilocks.specs.Elements.{of_number}
use Rattle.lzk_sha_circuit.specs.Inputs.{bit_list}
use Rattle.lzk_sha_circuit.proofs.Written.{entry_more}
use Rattle.lzk_gadgets.proofs.witness.push_byte.Goals as goal

pub loop-i-preserved : goal.loop-i-preserved
loop-i-preserved c =
    entry_more (λ j. of_number (bit_at c.args.byte (8 - 1 - j))) c.args.bits.now.items c.loop-i.bits.items c.push.new.self.items c.bit.result c.loop-i.i
    c.loop-i.invariant c.in_ok-push.ensures.items c.bit.ensures

pub returns : goal.returns
unfolding bit_list
returns c =
    let e : c.loop-i.i ≡ 8 = omega arith in
    c.loop-i.invariant ∙ ap (λ i. c.args.bits.now.items ++ map (λ j. of_number (bit_at c.args.byte (8 - 1 - j))) (range_with_len 0 i)) e
