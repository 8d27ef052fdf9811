use Rattle.std.proofs.Common.{◌*◌, List, arith, sym, subst}
use Rattle.lzk_sha_circuit.specs.declared.bit.Bit.{Bit}
use Rattle.lzk_sha_circuit.specs.Places.{IsPlaced, initial_state}
use Rattle.lzk_sha_circuit.proofs.MessagePlaces.{message_placed}
use Rattle.lzk_sha_circuit.proofs.message.message_given.Goals as goal

pub invariant_of-result : goal.invariant_of-result
invariant_of-result c =
    let len = c.args.message.len in
    let few = c.args.message.few in
    record {
      few = omega (arith, few);
      placed =
          subst (λ (s : List Bit). IsPlaced (record { inputs = 8 * len; state = s; block = c.in_ok-block.block.items })) (sym c.in_ok-state.ensures)
          (subst (λ (b : List Bit). IsPlaced (record { inputs = 8 * len; state = initial_state; block = b })) (sym c.in_ok-block.ensures) (message_placed len few));
    }
