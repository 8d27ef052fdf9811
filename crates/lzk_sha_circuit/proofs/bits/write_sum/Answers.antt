use Rattle.lzk_goldilocks.specs.Elements.{of_number}
use Rattle.std.proofs.Common.{◌%◌, ◌/◌, ◌^◌, ap, refl}
use Rattle.lzk_sha_circuit.specs.Inputs.{bit_list, sum_list}
use Rattle.lzk_sha_circuit.proofs.Written.{two_more}
use Rattle.lzk_sha_circuit.proofs.bits.write_sum.Goals as goal

pub returns-clause-bits : goal.returns-clause-bits
unfolding sum_list
returns-clause-bits c =
    let s = c.args.sum in
    two_more c.args.bits.now.items c.write_bits.new.bits.items c.write_bits-2.new.bits.items (bit_list of_number 32 c.from.result) (bit_list of_number c.args.carry (s / 2 ^ 32)) (bit_list of_number 32 (s % 2 ^ 32)) (bit_list of_number c.args.carry (s / 2 ^ 32))
    c.in_ok-write_bits.ensures c.in_ok-write_bits-2.ensures (ap (bit_list of_number 32) c.from.ensures) refl
