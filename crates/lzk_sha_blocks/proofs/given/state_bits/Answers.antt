use Rattle.std.proofs.Common.{◌≡◌, List, IfOk, subst}
use Rattle.lzk_sha_circuit.specs.declared.bit.Bit.{Bit}
use Rattle.lzk_sha_blocks.proofs.LayoutLaws.{first_state, later_state}
use Rattle.lzk_sha_blocks.proofs.given.state_bits.Goals as goal

pub returns-then-block-eq0 : goal.returns-then-block-eq0
returns-then-block-eq0 c =
    subst (λ (s : List Bit). IfOk c.initial_state.result (λ bits. bits.items ≡ s)) (first_state c.args.block.len c.args.block.i c.if-block-eq0.true) c.initial_state.ensures

pub returns-else-block-eq0 : goal.returns-else-block-eq0
returns-else-block-eq0 c =
    subst (λ (s : List Bit). IfOk c.behind.result (λ bits. bits.items ≡ s)) (later_state c.args.block.len c.args.block.i c.held.result c.if-block-eq0.false c.held.ensures.count) c.behind.ensures
