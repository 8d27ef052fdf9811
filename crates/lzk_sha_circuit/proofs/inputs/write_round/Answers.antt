use Rattle.std.proofs.Common.{◌≡◌, ◌+◌, ◌∙◌, slice_index}
use Rattle.lzk_goldilocks.specs.Elements.{of_number}
use Rattle.lzk_sha_circuit.specs.Inputs.{round_list, sum_list, first_total, second_total}
use Rattle.lzk_sha_circuit.proofs.Written.{two_more}
use Rattle.lzk_sha_circuit.proofs.inputs.write_round.Goals as goal

pub returns-clause-bits : goal.returns-clause-bits
unfolding round_list
returns-clause-bits c =
    let v = c.args.variables in
    let k = c.args.constant in
    let w = c.args.word in
    let first : c.from.result + c.from-2.result + c.from-3.result + c.from-4.result + c.from-5.result ≡ first_total v k w =
    λ i. c.from.ensures i + (c.from-2.ensures ∙ c.big_sigma1.ensures) i + (c.from-3.ensures ∙ c.ch.ensures) i + c.from-4.ensures i + c.from-5.ensures i in
    let second : c.from-6.result + c.from-7.result ≡ second_total v = λ i. (c.from-6.ensures ∙ c.big_sigma0.ensures) i + (c.from-7.ensures ∙ c.maj.ensures) i in
    two_more c.args.bits.now.items c.write_sum.new.bits.items c.write_sum-2.new.bits.items _ _ (sum_list of_number 3 (first_total v k w + second_total v)) (sum_list of_number 3 (slice_index v 3 + first_total v k w))
    c.in_ok-next_a.ensures.bits c.in_ok-next_e.ensures.bits (λ i. sum_list of_number 3 (first i + second i)) (λ i. sum_list of_number 3 (c.from-8.ensures i + first i))
