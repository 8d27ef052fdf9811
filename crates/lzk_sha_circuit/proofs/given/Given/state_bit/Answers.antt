use Rattle.std.proofs.Common.{◌∙◌, ap, arith, sym}
use Rattle.lzk_sha_circuit.specs.Places.{bit_of}
use Rattle.lzk_sha_circuit.proofs.given.Given.state_bit.Goals as goal

pub returns-clause-within : goal.returns-clause-within
returns-clause-within c k e =
    let placed = c.args.self.now.placed in
    let few = placed.few in
    let lt = placed.state_within c.args.j k (sym (c.bit_at.ensures ∙ ap (λ bits. bit_of bits c.args.j) c.deref.ensures.value) ∙ e) in
    omega (arith, few, lt)
