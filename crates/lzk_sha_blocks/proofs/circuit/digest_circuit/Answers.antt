use Rattle.std.proofs.Common.{◌≡◌, ℕ, ◌+◌, ◌*◌, ◌<◌, ◌≤◌, ◌∙◌, ◌↔◌, List, length, ap, sym, subst, arith}
use Rattle.std.specs.List.{range_with_len}
use Rattle.std.proofs.lemmas.List.FromFn.{length-range_with_len}
use Rattle.lzk_goldilocks.specs.Elements.{ops, number, of_number}
use Rattle.lzk_goldilocks.specs.declared.element.Gold.{Gold}
use Rattle.lzk_circuit_beside.specs.Chosen.{chosen}
use Rattle.lzk_circuit.specs.Checks.{IsSatisfied}
use Rattle.lzk_circuit.specs.Wires.{inputs_of}
use Rattle.lzk_circuit_reduce.specs.Renumbering.{AreNumbersBelow}
use Rattle.lzk_sha_circuit.specs.Outputs.{AreCompressing}
use Rattle.lzk_sha_blocks.specs.Hashed.{IsBlockSatisfied, AreBlocksSatisfied, AreHashing, block_public, block_private}
use Rattle.lzk_sha_blocks.specs.Layout.{blocks, private_count, given_count, block_places}
use Rattle.lzk_sha_blocks.proofs.HashCircuits.{both_ways, joined, no_more, one_more, only_block}
use Rattle.lzk_sha_blocks.proofs.Steps.{length-seen_public, length-seen_private}
use Rattle.lzk_sha_blocks.proofs.LayoutLaws.{wires_below, all_below, length-wires, seen_is, all_seen}
use Rattle.lzk_sha_blocks.proofs.circuit.digest_circuit.Goals as goal

pub returns-then-len-lt56-clause-satisfied : goal.returns-then-len-lt56-clause-satisfied
returns-then-len-lt56-clause-satisfied c public private short long =
    let len = c.args.len in
    let small = c.if-len-lt56.true in
    let few : len ≤ 55 = omega (arith, small) in
    let count : private_count len ≡ given_count len 0 + 6376 = omega (arith, few) in
    both_ways (IsSatisfied ops number c.in-Ok.first.layers (inputs_of ops public private)) (AreCompressing ops of_number (block_places len 0) public private) (AreHashing ops of_number len public private)
    (c.in-Ok.ensures.satisfied public private short (long ∙ count)) (only_block ops len few public private short long of_number)

pub with_block-requires-clause-count : goal.with_block-requires-clause-count
with_block-requires-clause-count c =
    let made = c.in-Ok.ensures in
    let p = made.publics in
    let q = made.privates in
    let long = ap length (c.deref.ensures.value ∙ c.in-Ok-wires.ensures) ∙ length-wires c.args.len 0 in
    omega (arith, long, p, q)

pub with_block-requires-clause-below : goal.with_block-requires-clause-below
with_block-requires-clause-below c =
    let some : 0 < blocks c.args.len = omega arith in
    subst (AreNumbersBelow (9 + private_count c.args.len)) (sym (c.deref.ensures.value ∙ c.in-Ok-wires.ensures)) (wires_below c.args.len 0 some)

pub loop-i-init : goal.loop-i-init
loop-i-init c =
    let len = c.args.len in
    let made = c.in_ok-whole.ensures in
    let first = c.in-Ok.first in
    record {
      version = made.version;
      publics = made.publics;
      privates = made.privates;
      satisfied = λ public private short long.
          let inputs = inputs_of ops public private in
          let seen = ap (λ (ws : List ℕ). chosen ops ws inputs) (c.deref.ensures.value ∙ c.in-Ok-wires.ensures) ∙ seen_is ops len 0 inputs in
          let own =
          subst (λ (xs : List Gold). IsSatisfied ops number first.layers xs ↔ IsBlockSatisfied ops of_number len inputs 0) (sym seen)
          (c.in-Ok.ensures.satisfied (block_public ops len inputs 0) (block_private ops len inputs 0) (length-seen_public ops len 0 inputs) (length-seen_private ops len 0 inputs)) in
          let before = IsSatisfied ops number first.layers (chosen ops c.deref.result.now inputs) in
          joined (IsSatisfied ops number c.in_ok-whole.whole.layers inputs) before (IsBlockSatisfied ops of_number len inputs 1) (AreBlocksSatisfied ops of_number len inputs 1) (AreBlocksSatisfied ops of_number len inputs 2)
          (made.satisfied public private short long)
          (both_ways before (IsBlockSatisfied ops of_number len inputs 0) (AreBlocksSatisfied ops of_number len inputs 1) own (no_more ops of_number len inputs))
          (one_more ops of_number len inputs 1);
    }

pub with_block-requires-in-loop-i-clause-count : goal.with_block-requires-in-loop-i-clause-count
with_block-requires-in-loop-i-clause-count c =
    let len = c.args.len in
    let n = 8 * len + 6384 * c.block_count-blocks.result in
    let long = ap length (c.deref-in-loop-i.ensures.value ∙ c.in-Ok-all_wires.ensures) ∙ length-range_with_len 1 n in
    let p = c.loop-i.invariant.publics in
    let q = c.loop-i.invariant.privates in
    let count = c.block_count-blocks.ensures.count in
    let some = c.block_count-blocks.ensures.some in
    omega (arith, long, p, q, count, some)

pub with_block-requires-in-loop-i-clause-below : goal.with_block-requires-in-loop-i-clause-below
with_block-requires-in-loop-i-clause-below c =
    let len = c.args.len in
    let n = 8 * len + 6384 * c.block_count-blocks.result in
    let count = c.block_count-blocks.ensures.count in
    let some = c.block_count-blocks.ensures.some in
    let width : 1 + n ≡ 9 + private_count len = omega (arith, count, some) in
    subst (λ (ws : List ℕ). AreNumbersBelow (9 + private_count len) ws) (sym (c.deref-in-loop-i.ensures.value ∙ c.in-Ok-all_wires.ensures))
    (subst (λ w. AreNumbersBelow w (range_with_len 1 n)) width (all_below n))

pub loop-i-preserved : goal.loop-i-preserved
loop-i-preserved c =
    let len = c.args.len in
    let i = c.loop-i.i in
    let n = 8 * len + 6384 * c.block_count-blocks.result in
    let count = c.block_count-blocks.ensures.count in
    let some = c.block_count-blocks.ensures.some in
    let made = c.in_ok-next.ensures in
    let whole = c.loop-i.whole in
    record {
      version = made.version;
      publics = made.publics;
      privates = made.privates;
      satisfied = λ public private short long.
          let inputs = inputs_of ops public private in
          let same = ap (λ (ws : List ℕ). chosen ops ws inputs) (c.deref-in-loop-i.ensures.value ∙ c.in-Ok-all_wires.ensures) ∙ all_seen ops public private n (omega (arith, short, long, count, some)) in
          joined (IsSatisfied ops number c.in_ok-next.next.layers inputs) (IsSatisfied ops number whole.layers (chosen ops c.deref-in-loop-i.result.now inputs)) (IsBlockSatisfied ops of_number len inputs i)
          (AreBlocksSatisfied ops of_number len inputs i) (AreBlocksSatisfied ops of_number len inputs (i + 1))
          (made.satisfied public private short long)
          (subst (λ (xs : List Gold). IsSatisfied ops number whole.layers xs ↔ AreBlocksSatisfied ops of_number len inputs i) (sym same) (c.loop-i.invariant.satisfied public private short long))
          (one_more ops of_number len inputs i);
    }
