use Rattle.std.proofs.Common.{◌∙◌}
use Rattle.std.specs.Int.{bit_at}
use Rattle.std.proofs.lemmas.Nat.Bits.{shr_and_one}
use Rattle.lzk_sha_circuit.proofs.MessagePlaces.{one_constant}
use Rattle.lzk_sha_circuit.proofs.bit.constant.Goals as goal

pub returns-else-value-eq0 : goal.returns-else-value-eq0
returns-else-value-eq0 c =
    let n = c.args.number in
    let i = c.args.place in
    one_constant (bit_at n i) (λ e. c.if-value-eq0.false (shr_and_one n i ∙ e))
