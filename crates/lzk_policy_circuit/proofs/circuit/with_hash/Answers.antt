use Rattle.std.proofs.Common.{◌≡◌, ℕ, ◌+◌, ◌*◌, ◌∙◌, List, ap, sym, subst, length, arith}
use Rattle.std.specs.Prelude.{◌↔◌}
use Rattle.std.specs.List.{range_with_len}
use Rattle.std.proofs.lemmas.List.FromFn.{length-range_with_len}
use Rattle.lzk_goldilocks.specs.Elements.{ops, number}
use Rattle.lzk_circuit.specs.Checks.{IsSatisfied}
use Rattle.lzk_circuit.specs.Wires.{inputs_of}
use Rattle.lzk_circuit_reduce.specs.Renumbering.{AreNumbersBelow}
use Rattle.lzk_circuit_beside.specs.Chosen.{chosen}
use Rattle.lzk_policy_circuit.specs.Places.{hash_places}
use Rattle.lzk_policy_circuit.specs.Layout.{rest_of_hash}
use Rattle.lzk_circuit_beside.proofs.PlaceLaws.{row_below}
use Rattle.lzk_policy_circuit.proofs.Parts.{hash_places_below, hash_places_count}
use Rattle.lzk_policy_circuit.proofs.Joined.{hash_satisfied}
use Rattle.lzk_policy_circuit.proofs.circuit.with_hash.Goals as goal

pub invariant_of-first : goal.invariant_of-first
invariant_of-first c =
    let n = c.args.hash.now.publics + c.privates.result in
    let long = ap length (c.deref.ensures.value ∙ c.in_ok-places.ensures) ∙ length-range_with_len 1 n in
    record { version = c.requires.version; count = omega (arith, long, c.privates.ensures, c.requires.publics) }

pub invariant_of-second : goal.invariant_of-second
invariant_of-second c =
    let h = c.args.hash.now in
    let long = ap length (c.deref-2.ensures.value ∙ c.in_ok-hash_inputs.ensures)
    ∙ hash_places_count (1 + h.words) (1 + h.publics + h.bits) (8 * h.len) (1 + h.publics + h.rest) (rest_of_hash h.len) in
    record {
      version = c.in_ok-own.ensures.version;
      count = omega (arith, long, c.in_ok-own.ensures.publics, c.in_ok-own.ensures.privates);
    }

pub beside-requires-clause-first : goal.beside-requires-clause-first
beside-requires-clause-first c κs =
    let h = c.args.hash.now in
    let width = 1 + h.publics + h.privates in
    let n = h.publics + c.privates.result in
    subst (AreNumbersBelow width) (sym (c.deref.ensures.value ∙ c.in_ok-places.ensures))
    (row_below width 1 n (omega (arith, c.privates.ensures, c.requires.privates)))

pub beside-requires-clause-second : goal.beside-requires-clause-second
beside-requires-clause-second c κs =
    let h = c.args.hash.now in
    let width = 1 + h.publics + h.privates in
    subst (AreNumbersBelow width) (sym (c.deref-2.ensures.value ∙ c.in_ok-hash_inputs.ensures))
    (hash_places_below width (1 + h.words) (1 + h.publics + h.bits) (8 * h.len) (1 + h.publics + h.rest) (rest_of_hash h.len)
    (omega (arith, h.words_stand)) (omega (arith, h.bits_stand)) (omega (arith, h.rest_stands)))

pub returns-in-Ok-clause-satisfied : goal.returns-in-Ok-clause-satisfied
returns-in-Ok-clause-satisfied c = λ public private np nq.
    let h = c.args.hash.now in
    let first = c.args.circuit.now in
    let own = c.in_ok-own.own in
    let whole = c.in-Ok.whole in
    let xs = inputs_of ops public private in
    let row : c.deref.result.now ≡ range_with_len 1 (length public + first.privates) =
    c.deref.ensures.value ∙ c.in_ok-places.ensures ∙ (λ i. range_with_len 1 (sym np i + c.privates.ensures i)) in
    let rows : c.deref-2.result.now ≡ hash_places (1 + h.words) (1 + length public + h.bits) (8 * h.len) (1 + length public + h.rest) (rest_of_hash h.len) =
    c.deref-2.ensures.value ∙ c.in_ok-hash_inputs.ensures
    ∙ (λ i. hash_places (1 + h.words) (1 + sym np i + h.bits) (8 * h.len) (1 + sym np i + h.rest) (rest_of_hash h.len)) in
    let W = IsSatisfied ops number whole.layers xs in
    let both = c.in-Ok.ensures.satisfied public private np nq in
    let one = subst (λ (l : List ℕ). W ↔ (IsSatisfied ops number first.layers (chosen ops l xs) × IsSatisfied ops number own.layers (chosen ops c.deref-2.result.now xs))) row both in
    let two = subst (λ (l : List ℕ). W ↔ (IsSatisfied ops number first.layers (chosen ops (range_with_len 1 (length public + first.privates)) xs) × IsSatisfied ops number own.layers (chosen ops l xs))) rows one in
    hash_satisfied first own whole public private h.len h.words h.bits h.rest
    c.in_ok-own.ensures.satisfied (omega (arith, nq, c.requires.privates)) (omega (arith, np, nq, h.words_stand)) (omega (arith, nq, h.bits_stand)) (omega (arith, nq, h.rest_stands)) two
