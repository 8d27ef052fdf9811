use Rattle.std.proofs.Common.{◌≡◌, ℕ, ◌+◌, ◌*◌, ◌∙◌, ap, sym, subst, arith, take, drop, length, List, ◌++◌}
use Rattle.std.specs.Prelude.{◌↔◌, IfOk}
use Rattle.std.proofs.lemmas.List.{length-take-le}
use Rattle.lzk_goldilocks.specs.Elements.{ops, of_number, number}
use Rattle.lzk_goldilocks.specs.declared.element.Gold.{Gold}
use Rattle.lzk_circuit.specs.Checks.{IsSatisfied}
use Rattle.lzk_circuit.specs.Wires.{inputs_of}
use Rattle.lzk_sha_blocks.specs.Hashed.{AreHashing}
use Rattle.lzk_policy_circuit.specs.Causes.{IsPolicyCause}
use Rattle.lzk_policy_circuit.specs.Meaning.{public_count}
use Rattle.lzk_policy_circuit.specs.Layout.{rest_of_hash, rests_of, stated_count, private_count, padded}
use Rattle.lzk_policy_circuit.specs.Met.{AreHashed, Satisfy}
use Rattle.lzk_policy_circuit.proofs.Answering.{ok_all, ok_map, ok_both, if_err, part_cause, parts_cause}
use Rattle.lzk_policy_circuit.proofs.Joined.{then_iff, whole_satisfied, shown_exactly}
use Rattle.lzk_policy_circuit.proofs.circuit.policy_circuit.Goals as goal

satisfied_by : (c : goal.After-drop-statement-inside-2) → (public private : List Gold) → length public ≡ public_count c.args.policy.now → length private ≡ private_count c.args.policy.now
    → IfOk c.with_pseudonyms.result (λ w. IsSatisfied ops number w.layers (inputs_of ops public private) ↔ Satisfy c.args.policy.now public private)
satisfied_by c public private np nq =
    let p = c.args.policy.now in
    let fields = c.fields-fields.ensures in
    let shows = c.shows-shows.ensures in
    let size = c.size-size.ensures.size in
    let stated = c.privates-stated.result in
    let ep : c.publics.result ≡ public_count p = c.publics.ensures ∙ c.in_ok-statement.ensures.publics in
    let es : stated ≡ stated_count p = c.privates-stated.ensures ∙ c.in_ok-statement.ensures.privates in
    let ew : c.rest_of_hash-rest.result ≡ rest_of_hash p.size = c.rest_of_hash-rest.ensures.count ∙ ap rest_of_hash c.size-size.ensures.size in
    let er : c.rests_of.result ≡ rests_of p.shows = c.rests_of.ensures.count ∙ (λ j. rests_of (shows j)) in
    let eq : c.padded-privates.result ≡ private_count p = c.padded-privates.ensures.count ∙ (λ i. padded (es i + (ew i + er i))) in
    let statement = c.in_ok-statement.statement in
    let record_ = c.in_ok-record.record in
    let xs = inputs_of ops public private in
    let B = IsSatisfied ops number record_.layers xs in
    let np_ = np ∙ sym ep in
    let nq_ = nq ∙ sym eq in
    let N = stated_count p in
    let long : length (take N private) ≡ N = length-take-le N private (omega (arith, nq_, es, c.padded-privates.ensures.enough)) in
    let R = λ (n z s w : ℕ). B ↔ (IsSatisfied ops number statement.layers (inputs_of ops public (take n private)) ×
    AreHashing ops of_number z (take 8 (drop 0 (public ++ private))) (take (8 * z) (drop 0 private) ++ take w (drop s private))) in
    let r = subst (λ (T : Type 0). T) (λ i. R (c.in_ok-statement.ensures.privates i) (size i) (es i) (rest_of_hash (size i))) (c.in_ok-record.ensures.satisfied public private np_ nq_) in
    let s = c.in_ok-statement.ensures.satisfied public (take N private) np long in
    let whole = whole_satisfied p (IsSatisfied ops number statement.layers (inputs_of ops public (take N private))) B public private (omega (arith, np)) r s in
    ok_map c.with_pseudonyms.result _ _ (c.with_pseudonyms.ensures.satisfied public private (np_ ∙ sym c.in_ok-record.ensures.publics) (nq_ ∙ sym c.in_ok-record.ensures.privates)) (λ w e.
    then_iff (subst (λ (T : Type 0). IsSatisfied ops number w.layers xs ↔ (B × T)) (λ i. AreHashed (fields i) (shows i) (drop 8 public) (drop (8 * size i) private) (drop (es i + ew i) private)) e) whole)

private_counted : (c : goal.After-drop-statement-inside-2) → IfOk c.with_pseudonyms.result (λ w. w.privates ≡ private_count c.args.policy.now)
private_counted c =
    let p = c.args.policy.now in
    let shows = c.shows-shows.ensures in
    let es : c.privates-stated.result ≡ stated_count p = c.privates-stated.ensures ∙ c.in_ok-statement.ensures.privates in
    let ew : c.rest_of_hash-rest.result ≡ rest_of_hash p.size = c.rest_of_hash-rest.ensures.count ∙ ap rest_of_hash c.size-size.ensures.size in
    let er : c.rests_of.result ≡ rests_of p.shows = c.rests_of.ensures.count ∙ (λ j. rests_of (shows j)) in
    ok_map c.with_pseudonyms.result _ _ c.with_pseudonyms.ensures.privates (λ w e. e ∙ c.in_ok-record.ensures.privates ∙ c.padded-privates.ensures.count ∙ (λ i. padded (es i + (ew i + er i))))

pub returns-clause-shown : goal.returns-clause-shown
returns-clause-shown c = λ public np.
    let p = c.args.policy.now in
    let N = private_count p in
    let all = ok_all c.with_pseudonyms.result (λ (b : (private : List Gold) × (length private ≡ N)) w. IsSatisfied ops number w.layers (inputs_of ops public b.0) ↔ Satisfy p public b.0) (λ b. satisfied_by c public b.0 np b.1) in
    let counts = private_counted c in
    ok_both c.with_pseudonyms.result _ _ _ counts all (λ w e h. shown_exactly p c.size-size.ensures.policy public np w.layers w.privates e (λ private nq. h (private, nq)))

pub returns-clause-satisfied : goal.returns-clause-satisfied
returns-clause-satisfied c = λ public private np nq. satisfied_by c public private np nq

pub returns-in_err-statement-clause-cause : goal.returns-in_err-statement-clause-cause
returns-in_err-statement-clause-cause c =
    if_err c.from_residual.result _ (IsPolicyCause c.args.policy.now) c.from_residual.ensures.1
    (λ e g. subst (IsPolicyCause c.args.policy.now) (sym g) (part_cause c.args.policy.now _ c.in_err-statement.ensures.cause))

pub returns-in_err-record-clause-cause : goal.returns-in_err-record-clause-cause
returns-in_err-record-clause-cause c =
    if_err c.from_residual-in_err-record.result _ (IsPolicyCause c.args.policy.now) c.from_residual-in_err-record.ensures.1
    (λ e g. subst (IsPolicyCause c.args.policy.now) (sym g) (part_cause c.args.policy.now _ c.in_err-record.ensures.cause))

pub returns-clause-cause : goal.returns-clause-cause
returns-clause-cause c = parts_cause c.args.policy.now c.with_pseudonyms.result c.with_pseudonyms.ensures.cause

pub returns-then-privates-gt-MOST_PRIVATES-clause-cause : goal.returns-then-privates-gt-MOST_PRIVATES-clause-cause
returns-then-privates-gt-MOST_PRIVATES-clause-cause c =
    let p = c.args.policy.now in
    let shows = c.shows-shows.ensures in
    let es : c.privates-stated.result ≡ stated_count p = c.privates-stated.ensures ∙ c.in_ok-statement.ensures.privates in
    let ew : c.rest_of_hash-rest.result ≡ rest_of_hash p.size = c.rest_of_hash-rest.ensures.count ∙ ap rest_of_hash c.size-size.ensures.size in
    let er : c.rests_of.result ≡ rests_of p.shows = c.rests_of.ensures.count ∙ (λ j. rests_of (shows j)) in
    let eq : c.padded-privates.result ≡ private_count p = c.padded-privates.ensures.count ∙ (λ i. padded (es i + (ew i + er i))) in
    omega (arith, eq, c.if-privates-gt-MOST_PRIVATES.true)
