use Rattle.std.proofs.Common.{◌+◌, ◌∙◌, ap, sym}
use Rattle.lzk_goldilocks.specs.Elements.{ops, number}
use Rattle.lzk_circuit.specs.Checks.{IsSatisfied}
use Rattle.lzk_circuit.specs.Wires.{inputs_of}
use Rattle.lzk_policy_circuit.proofs.Answering.{ok_map}
use Rattle.lzk_policy_circuit.proofs.Joined.{hashed_then}
use Rattle.lzk_policy_circuit.proofs.circuit.+with_pseudonyms.Goals as goal

pub returns-clause-satisfied : goal.returns-clause-satisfied
returns-clause-satisfied t c = λ public private np nq.
    let circuit = c.args.circuit in
    let more = c.in_ok-more.more in
    let xs = inputs_of ops public private in
    let words = c.args.words in
    let bits = c.args.bits in
    let rest = c.args.rest in
    let first = c.in_ok-more.ensures.satisfied public private np nq in
    ok_map c.with_pseudonyms.result _ _ (c.with_pseudonyms.ensures.satisfied public private (np ∙ sym c.in_ok-more.ensures.publics) (nq ∙ sym c.in_ok-more.ensures.privates)) (λ w e.
    hashed_then (IsSatisfied ops number w.layers xs) (IsSatisfied ops number more.layers xs) (IsSatisfied ops number circuit.layers xs) c.args.fields.now c.args.shows.now c.in-Some.show.now c.in-Some.others.now c.field_of-field.result.now
    public private words bits rest (words + c.value_count.result) (bits + c.own_of_claim.result) (rest + c.rest_of_claim.result) c.in-Some.ensures.cases.0 c.field_of-field.ensures.there
    (ap (λ n. words + n) c.value_count.ensures.count) (ap (λ n. bits + n) c.own_of_claim.ensures.count) (ap (λ n. rest + n) c.rest_of_claim.ensures.count) first e)
