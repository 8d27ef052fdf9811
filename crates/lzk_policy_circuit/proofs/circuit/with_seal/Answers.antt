use Rattle.std.proofs.Common.{◌≡◌, ℕ, ◌+◌, ◌∙◌, List, ◌++◌, take, drop, sym, subst, arith, length, ap}
use Rattle.std.specs.Prelude.{◌↔◌}
use Rattle.lzk_goldilocks.specs.Elements.{ops, of_number, number}
use Rattle.lzk_goldilocks.specs.declared.element.Gold.{Gold}
use Rattle.lzk_circuit.specs.Checks.{IsSatisfied}
use Rattle.lzk_circuit.specs.Wires.{inputs_of}
use Rattle.lzk_sha_blocks.specs.Hashed.{AreHashing}
use Rattle.std.proofs.Math.Seq.{take-length}
use Rattle.lzk_policy_circuit.proofs.Answering.{ok_map}
use Rattle.lzk_policy_circuit.proofs.Joined.{seal_hashed}
use Rattle.lzk_policy_circuit.proofs.circuit.with_seal.Goals as goal

pub returns-clause-satisfied : goal.returns-clause-satisfied
returns-clause-satisfied c = λ public private np nq.
    let circuit = c.args.circuit.now in
    let first = c.in_ok-first.first in
    let xs = inputs_of ops public private in
    let words = c.args.words in
    let bits = c.args.bits in
    let rest = c.args.rest in
    let ep : c.publics-publics.result ≡ length public = c.publics-publics.ensures ∙ sym np in
    let np_ = sym ep in
    let nq_ = nq ∙ sym c.privates-privates.ensures in
    let here : first.privates ≡ length private = c.in_ok-first.ensures.privates ∙ c.privates-privates.ensures ∙ sym nq in
    let all : take first.privates private ≡ private = ap (λ n. take n private) here ∙ take-length private in
    let M = IsSatisfied ops number first.layers xs in
    let S = λ (n : ℕ). M ↔ (IsSatisfied ops number circuit.layers (inputs_of ops public (take circuit.privates private))
    × AreHashing ops of_number 20 (take 8 (drop (n + bits + 160) (public ++ private))) (take 160 (drop bits private) ++ take 6376 (drop rest private))) in
    let one = subst S ep (c.in_ok-first.ensures.satisfied public private np_ nq_) in
    ok_map c.with_hash-2.result _ _ (c.with_hash-2.ensures.satisfied public private np_ nq_) (λ w e.
    seal_hashed circuit.layers public private M (IsSatisfied ops number w.layers xs) circuit.privates words bits rest (sym nq) (omega (arith, np, c.requires.words)) one
    (subst (λ (l : List Gold). IsSatisfied ops number w.layers xs ↔ (IsSatisfied ops number first.layers (inputs_of ops public l)
    × AreHashing ops of_number 36 (take 8 (drop (words + 4) (public ++ private))) (take 288 (drop (bits + 168) private) ++ take 6376 (drop (rest + 6376) private)))) all e))
