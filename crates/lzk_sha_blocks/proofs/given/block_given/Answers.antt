use Rattle.std.proofs.Common.{arith, sym, subst}
use Rattle.lzk_sha_circuit.specs.Places.{IsPlaced}
use Rattle.lzk_sha_blocks.proofs.LayoutLaws.{block_placed, state_few, places_are}
use Rattle.lzk_sha_blocks.proofs.given.block_given.Goals as goal

pub invariant_of-result : goal.invariant_of-result
invariant_of-result c =
    let s = state_few c.args.block.i in
    let own = c.held.ensures.count in
    let few = c.held.ensures.few in
    let state = c.state_count.ensures.count in
    record {
      few = omega (arith, own, few, state, s);
      placed =
          subst IsPlaced
          (sym (places_are c.args.block.len c.args.block.i c.held.result c.state_count.result c.in_ok-state.state.items c.in_ok-bits.bits.items own state c.in_ok-state.ensures c.in_ok-bits.ensures))
          (block_placed c.args.block.len c.args.block.i);
    }

pub returns : goal.returns
returns c =
    places_are c.args.block.len c.args.block.i c.held.result c.state_count.result c.in_ok-state.state.items c.in_ok-bits.bits.items c.held.ensures.count c.state_count.ensures.count c.in_ok-state.ensures c.in_ok-bits.ensures
