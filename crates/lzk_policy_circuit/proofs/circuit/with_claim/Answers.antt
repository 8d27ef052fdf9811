use Rattle.std.proofs.Common.{◌∙◌, drop, sym, subst, ap, arith}
use Rattle.std.specs.Prelude.{◌↔◌}
use Rattle.lzk_goldilocks.specs.Elements.{ops, number}
use Rattle.lzk_circuit.specs.Checks.{IsSatisfied}
use Rattle.lzk_circuit.specs.Wires.{inputs_of}
use Rattle.lzk_policy.specs.declared.policy.Claim.{Claim}
use Rattle.lzk_policy_circuit.specs.Meaning.{value_count}
use Rattle.lzk_policy_circuit.specs.Met.{IsHashed}
use Rattle.lzk_policy_circuit.proofs.Answering.{ok_map}
use Rattle.lzk_policy_circuit.proofs.Joined.{then_iff, pseudonym_hashed}
use Rattle.lzk_policy_circuit.proofs.circuit.with_claim.Goals as goal

pub returns-in-Pseudonym-clause-satisfied : goal.returns-in-Pseudonym-clause-satisfied
returns-in-Pseudonym-clause-satisfied c = λ public private np nq.
    let circuit = c.args.circuit in
    let here = pseudonym_hashed circuit.layers c.args.field.now c.args.claim.now c.in-Pseudonym.field-0 public private circuit.privates c.args.words c.args.bits c.args.rest c.in-Pseudonym.is c.requires.suits (sym nq) (omega (arith, np, c.requires.words, ap value_count c.in-Pseudonym.is)) in
    ok_map c.with_hash.result _ _ (c.with_hash.ensures.satisfied public private (np ∙ sym c.publics.ensures) (nq ∙ sym c.privates.ensures)) (λ w e. then_iff e here)

pub returns-in-Sealed-clause-satisfied : goal.returns-in-Sealed-clause-satisfied
returns-in-Sealed-clause-satisfied c = λ public private np nq.
    let xs = inputs_of ops public private in
    let own = drop c.args.bits private in
    let rests = drop c.args.rest private in
    ok_map c.with_seal.result _ _ (c.with_seal.ensures.satisfied public private np nq) (λ w e.
    subst (λ (k : Claim). IsSatisfied ops number w.layers xs ↔ (IsSatisfied ops number c.args.circuit.layers xs × IsHashed c.args.field.now k (drop c.args.words public) own rests)) (sym c.in-Sealed.is) e)
