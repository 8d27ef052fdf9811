use Rattle.std.proofs.Common.{◌≤◌, ◌*◌, List, ℕ, subst, sym, arith, length}
use Rattle.std.specs.Prelude.{IsTrue}
use Rattle.lzk_policy.specs.Policies.{are_texts_of}
use Rattle.lzk_goldilocks.specs.Elements.{ops}
use Rattle.lzk_gadgets.specs.Claims.{Adds}
use Rattle.lzk_policy_circuit.specs.Met.{IsOneOf}
use Rattle.lzk_policy_circuit.proofs.Answering.{ok_map}
use Rattle.lzk_policy_circuit.proofs.Adding.{claim_most, claim_least, claim_equal, claim_spelled, claim_text, claim_pseudonym, claim_sealed, texts_suit}
use Rattle.lzk_policy_circuit.proofs.shows.assert_claim.Goals as goal

pub returns-in-AtMost : goal.returns-in-AtMost
returns-in-AtMost c =
    let small : c.args.field.now.size ≤ 119 = omega arith in
    ok_map c.assert_side.result _ _ c.assert_side.ensures (λ x d.
    claim_most c.args.field.now c.args.claim.now c.args.s.now c.assert_side.new.s c.args.i c.args.own small c.in-AtMost.field-0 c.in-AtMost.is d)

pub returns-in-AtLeast : goal.returns-in-AtLeast
returns-in-AtLeast c =
    let small : c.args.field.now.size ≤ 119 = omega arith in
    ok_map c.assert_side-in-AtLeast.result _ _ c.assert_side-in-AtLeast.ensures (λ x d.
    claim_least c.args.field.now c.args.claim.now c.args.s.now c.assert_side-in-AtLeast.new.s c.args.i c.args.own small c.in-AtLeast.field-0 c.in-AtLeast.is d)

pub returns-in-Equal : goal.returns-in-Equal
returns-in-Equal c =
    let small : c.args.field.now.size ≤ 119 = omega arith in
    ok_map c.assert_number.result _ _ c.assert_number.ensures (λ x d.
    claim_equal c.args.field.now c.args.claim.now c.args.s.now c.assert_number.new.s c.args.i c.args.own small c.in-Equal.field-0 c.in-Equal.is d)

pub returns-in-Spelled : goal.returns-in-Spelled
returns-in-Spelled c =
    let small : c.args.field.now.size ≤ 119 = omega arith in
    ok_map c.assert_pieces.result _ _ c.assert_pieces.ensures (λ x d.
    claim_spelled c.args.field.now c.args.claim.now c.args.s.now c.assert_pieces.new.s c.args.i c.args.own small c.in-Spelled.field-0 c.in-Spelled.is d)

pub assert_one_of-requires-clause-count : goal.assert_one_of-requires-clause-count
assert_one_of-requires-clause-count c =
    subst (λ (ts : List (List ℕ)). length ts ≤ 16) (sym c.texts.ensures) (texts_suit c.args.field.now c.args.claim.now c.in-OneOf.texts c.in-OneOf.is c.requires.suits).0

pub assert_one_of-requires-clause-texts : goal.assert_one_of-requires-clause-texts
assert_one_of-requires-clause-texts c =
    subst (λ (ts : List (List ℕ)). IsTrue (are_texts_of c.args.field.now.size ts)) (sym c.texts.ensures) (texts_suit c.args.field.now c.args.claim.now c.in-OneOf.texts c.in-OneOf.is c.requires.suits).1

pub returns-in-OneOf : goal.returns-in-OneOf
returns-in-OneOf c =
    let small : c.args.field.now.size ≤ 119 = omega arith in
    ok_map c.assert_one_of.result _ _ c.assert_one_of.ensures (λ x d.
    claim_text c.args.field.now c.args.claim.now c.args.s.now c.assert_one_of.new.s c.args.i c.args.own small c.in-OneOf.texts c.in-OneOf.is
    (subst (λ (ts : List (List ℕ)). Adds ops 4000 1 c.args.s.now c.assert_one_of.new.s (λ p q. IsOneOf q (8 * c.args.field.now.place) c.args.field.now.size ts)) c.texts.ensures d))

pub returns-in-Pseudonym : goal.returns-in-Pseudonym
returns-in-Pseudonym c =
    let small : c.args.field.now.size ≤ 119 = omega arith in
    ok_map c.assert_composed.result _ _ c.assert_composed.ensures (λ x d.
    claim_pseudonym c.args.field.now c.args.claim.now c.args.s.now c.assert_composed.new.s c.args.i c.args.own small c.in-Pseudonym.field-0 c.in-Pseudonym.is d)

pub returns-in-Sealed : goal.returns-in-Sealed
returns-in-Sealed c =
    let small : c.args.field.now.size ≤ 119 = omega arith in
    ok_map c.assert_sealed.result _ _ c.assert_sealed.ensures (λ x d.
    claim_sealed c.args.field.now c.args.claim.now c.args.s.now c.assert_sealed.new.s c.args.i c.args.own small c.in-Sealed.field-0 c.in-Sealed.is d)
