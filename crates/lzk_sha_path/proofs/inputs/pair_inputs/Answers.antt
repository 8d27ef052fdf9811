use Rattle.std.proofs.Common.{◌≡◌, ◌∙◌, length, ap, sym, subst, ℕ, List}
use Rattle.lzk_goldilocks.specs.Elements.{ops, of_number}
use Rattle.lzk_goldilocks.specs.declared.element.Gold.{Gold}
use Rattle.lzk_sha_circuit.specs.Compression.{AreBits, Finds}
use Rattle.lzk_sha_circuit.specs.Inputs.{compression_private}
use Rattle.lzk_sha_path.specs.Levels.{level_places, first_inputs}
use Rattle.lzk_sha_path.specs.Roots.{block_of, node_state}
use Rattle.lzk_sha_path.proofs.Blocks.{is_block}
use Rattle.lzk_sha_path.proofs.LevelLaws.{placed, given_of, length-given, given_bits, given_finds}
use Rattle.lzk_sha_path.proofs.Made.{level_counted, level_made}
use Rattle.lzk_sha_path.proofs.inputs.pair_inputs.Goals as goal

pub first_inputs-requires : goal.first_inputs-requires
first_inputs-requires c =
    let is = is_block c.args.left c.args.right in
    ap length (c.deref.ensures.value ∙ c.in_ok-block.ensures) ∙ is.long

pub compression_inputs-requires : goal.compression_inputs-requires
compression_inputs-requires c =
    let is = is_block c.args.left c.args.right in
    ap length (c.deref-2.ensures.value ∙ c.in_ok-block.ensures) ∙ is.long

-- what the compression is given, and what it gives
given_is : (c : goal.After-drop-block-2) → c.in_ok-given.given.items ≡ given_of c.args.left c.args.right c.args.side.number
given_is c = c.in_ok-given.ensures ∙ ap (λ (b : List ℕ). first_inputs b c.args.side.number) (c.deref.ensures.value ∙ c.in_ok-block.ensures)

private_is : (c : goal.After-drop-block-2) → c.in_ok-inputs.inputs.private.items ≡ compression_private of_number (given_of c.args.left c.args.right c.args.side.number) node_state (block_of c.args.left c.args.right)
private_is c =
    c.in_ok-inputs.ensures.privates
    ∙ (λ i. compression_private of_number (given_is c i) node_state ((c.deref-2.ensures.value ∙ c.in_ok-block.ensures) i))

pub returns-clause-count : goal.returns-clause-count
returns-clause-count c =
    level_counted c.args.left c.args.right c.args.side.number c.node_laws.ensures c.node_laws-2.ensures c.args.side.two c.in_ok-inputs.inputs.public.items c.in_ok-inputs.inputs.private.items (private_is c)

pub returns-clause-level : goal.returns-clause-level
returns-clause-level c =
    let l = c.args.left in
    let r = c.args.right in
    let d = c.args.side.number in
    let g = c.in_ok-given.given.items in
    let b = c.deref-2.result.now in
    let same = given_is c in
    let block = c.deref-2.ensures.value ∙ c.in_ok-block.ensures in
    level_made l r d c.node_laws.ensures c.node_laws-2.ensures c.args.side.two c.in_ok-inputs.inputs.public.items c.in_ok-inputs.inputs.private.items (private_is c)
    (c.in_ok-inputs.ensures.satisfying level_places placed (ap length same ∙ length-given l r d c.args.side.two)
    (subst (AreBits ops of_number) (sym same) (given_bits l r d c.args.side.two))
    (subst (λ (x : List Gold). Finds ops of_number level_places x node_state b) (sym same)
    (subst (Finds ops of_number level_places (given_of l r d) node_state) (sym block) (given_finds l r d c.args.side.two))))
