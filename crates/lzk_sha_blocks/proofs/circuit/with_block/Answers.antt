use Rattle.std.proofs.Common.{ℕ, ◌+◌, ◌-◌, ◌*◌, ◌∙◌, ◌↔◌, List, length, ap, sym, subst, arith}
use Rattle.lzk_goldilocks.specs.Elements.{ops, number, of_number}
use Rattle.lzk_goldilocks.specs.declared.element.Gold.{Gold}
use Rattle.lzk_circuit_beside.specs.Chosen.{chosen}
use Rattle.lzk_circuit.specs.Checks.{IsSatisfied}
use Rattle.lzk_circuit.specs.Wires.{inputs_of}
use Rattle.lzk_circuit_reduce.specs.Renumbering.{AreNumbersBelow}
use Rattle.lzk_sha_blocks.specs.Hashed.{IsBlockSatisfied, block_public, block_private}
use Rattle.lzk_sha_blocks.specs.Layout.{private_count}
use Rattle.lzk_sha_blocks.proofs.HashCircuits.{right_is}
use Rattle.lzk_sha_blocks.proofs.Steps.{length-seen_public, length-seen_private}
use Rattle.lzk_sha_blocks.proofs.LayoutLaws.{wires_below, length-wires, seen_is}
use Rattle.lzk_sha_blocks.proofs.circuit.with_block.Goals as goal

pub invariant_of-second : goal.invariant_of-second
invariant_of-second c =
    let made = c.in-Ok.ensures in
    let p = made.publics in
    let q = made.privates in
    let long = ap length (c.deref.ensures.value ∙ c.in-Ok-wires.ensures) ∙ length-wires c.args.block.len c.args.block.i in
    record { version = made.version; count = omega (arith, long, p, q) }

pub beside-requires-clause-second : goal.beside-requires-clause-second
beside-requires-clause-second c κs =
    let len = c.args.block.len in
    let same = c.deref.ensures.value ∙ c.in-Ok-wires.ensures in
    subst (λ n. AreNumbersBelow (9 + (8 * len + 6384 * n - 8)) c.deref.result.now) (sym c.block_count.ensures.count)
    (subst (AreNumbersBelow (9 + private_count len)) (sym same) (wires_below len c.args.block.i c.args.block.within))

pub returns-in-Ok-beside-clause-satisfied : goal.returns-in-Ok-beside-clause-satisfied
returns-in-Ok-beside-clause-satisfied c public private short long =
    let len = c.args.block.len in
    let i = c.args.block.i in
    let inputs = inputs_of ops public private in
    let next = c.in-Ok.next in
    let same = c.deref.ensures.value ∙ c.in-Ok-wires.ensures in
    let seen = ap (λ (ws : List ℕ). chosen ops ws inputs) same ∙ seen_is ops len i inputs in
    let count = ap (λ n. 8 * len + 6384 * n - 8) (sym c.block_count.ensures.count) in
    let own =
    subst (λ (xs : List Gold). IsSatisfied ops number next.layers xs ↔ IsBlockSatisfied ops of_number len inputs i) (sym seen)
    (c.in-Ok.ensures.satisfied (block_public ops len inputs i) (block_private ops len inputs i) (length-seen_public ops len i inputs) (length-seen_private ops len i inputs)) in
    right_is (IsSatisfied ops number c.in-Ok-beside.circuit.layers inputs) (IsSatisfied ops number c.args.before.now.layers (chosen ops c.args.seen.now inputs))
    (IsSatisfied ops number next.layers (chosen ops c.deref.result.now inputs)) (IsBlockSatisfied ops of_number len inputs i)
    (c.in-Ok-beside.ensures.satisfied public private short (long ∙ count)) own
