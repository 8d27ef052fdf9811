use Rattle.std.proofs.Common.{◌≡◌, ℕ, ◌+◌, ◌*◌, ◌∙◌, ap, sym, subst, arith, drop, length, List, []}
use Rattle.std.specs.Prelude.{◌↔◌}
use Rattle.lzk_goldilocks.specs.Elements.{ops}
use Rattle.lzk_level.specs.Nodes.{node_values}
use Rattle.lzk_gadgets.specs.Claims.{AreInputs, AreZero, Holds}
use Rattle.lzk_gadgets.proofs.ClaimLaws.{inputs_kept}
use Rattle.lzk_policy_circuit.specs.Layout.{asserts_of, owns_of}
use Rattle.lzk_policy_circuit.specs.Meaning.{values_of}
use Rattle.lzk_policy_circuit.specs.Met.{AreStated}
use Rattle.lzk_policy_circuit.proofs.Adding.{Stated}
use Rattle.lzk_policy_circuit.proofs.Joined.{asserts_between, stated_satisfied}
use Rattle.lzk_policy_circuit.proofs.circuit.stated_circuit.Goals as goal

pub finish-requires-clause-some : goal.finish-requires-clause-some
finish-requires-clause-some c =
    let p = c.args.policy.now in
    let none = ap (λ (s : Stated). length s.asserts) c.in_ok-s.ensures in
    let same : asserts_of c.fields-fields.result.now c.shows-shows.result.now ≡ asserts_of p.fields p.shows = λ i. asserts_of (c.fields-fields.ensures i) (c.shows-shows.ensures i) in
    let between = asserts_between p.fields p.shows c.size-size.ensures.policy.shows in
    omega (arith, c.in_ok-assert_shows.ensures.count, none, same, between.0, c.size-size.ensures.policy.shown)

pub finish-requires-clause-few : goal.finish-requires-clause-few
finish-requires-clause-few c =
    let p = c.args.policy.now in
    let none = ap (λ (s : Stated). length s.asserts) c.in_ok-s.ensures in
    let same : asserts_of c.fields-fields.result.now c.shows-shows.result.now ≡ asserts_of p.fields p.shows = λ i. asserts_of (c.fields-fields.ensures i) (c.shows-shows.ensures i) in
    let between = asserts_between p.fields p.shows c.size-size.ensures.policy.shows in
    omega (arith, c.in_ok-assert_shows.ensures.count, none, same, between.1, c.size-size.ensures.policy.few)

pub returns-in-Ok-clause-publics : goal.returns-in-Ok-clause-publics
returns-in-Ok-clause-publics c =
    c.in-Ok.ensures.publics ∙ c.in_ok-assert_shows.ensures.keeps.publics ∙ ap (λ (s : Stated). s.nodes.publics) c.in_ok-s.ensures
    ∙ (λ i. 8 + (c.values_of-publics.ensures.count ∙ (λ j. values_of (c.shows-shows.ensures j))) i)

pub returns-in-Ok-clause-privates : goal.returns-in-Ok-clause-privates
returns-in-Ok-clause-privates c =
    c.in-Ok.ensures.privates ∙ c.in_ok-assert_shows.ensures.keeps.privates ∙ ap (λ (s : Stated). s.nodes.privates) c.in_ok-s.ensures
    ∙ (λ i. 8 * c.size-size.ensures.size i + (c.owns_of.ensures.count ∙ (λ j. owns_of (c.fields-fields.ensures j) (c.shows-shows.ensures j))) i)

pub returns-in-Ok-clause-few : goal.returns-in-Ok-clause-few
returns-in-Ok-clause-few c =
    let policy = c.size-size.ensures.policy in
    let privates = c.in-Ok.ensures.privates ∙ c.in_ok-assert_shows.ensures.keeps.privates ∙ ap (λ (s : Stated). s.nodes.privates) c.in_ok-s.ensures in
    omega (arith, privates, c.owns_of.ensures.most, ap length c.shows-shows.ensures, policy.few, c.size-size.ensures.size, policy.block)

pub returns-in-Ok-clause-satisfied : goal.returns-in-Ok-clause-satisfied
returns-in-Ok-clause-satisfied c = λ public private np nq.
    let p = c.args.policy.now in
    let old = c.in_ok-s.s in
    let new = c.assert_shows.new.s in
    let adds = c.in_ok-assert_shows.ensures in
    let publics = ap (λ (s : Stated). s.nodes.publics) c.in_ok-s.ensures ∙ (λ i. 8 + (c.values_of-publics.ensures.count ∙ (λ j. values_of (c.shows-shows.ensures j))) i) in
    let privates = ap (λ (s : Stated). s.nodes.privates) c.in_ok-s.ensures
    ∙ (λ i. 8 * c.size-size.ensures.size i + (c.owns_of.ensures.count ∙ (λ j. owns_of (c.fields-fields.ensures j) (c.shows-shows.ensures j))) i) in
    let inputs : AreInputs old public private = record { publics = np ∙ sym publics; privates = nq ∙ sym privates } in
    let later = inputs_kept ops _ old new public private adds.keeps inputs in
    let empty : old.asserts ≡ [] = ap (λ (s : Stated). s.asserts) c.in_ok-s.ensures in
    let before : Holds ops old public private = subst (λ (l : List ℕ). AreZero ops (node_values ops old.nodes public private) l) (sym empty) tt in
    let same : AreStated private c.fields-fields.result.now c.shows-shows.result.now (drop 8 public) (drop (8 * c.size-size.result) private) ≡ AreStated private p.fields p.shows (drop 8 public) (drop (8 * p.size) private) =
    λ i. AreStated private (c.fields-fields.ensures i) (c.shows-shows.ensures i) (drop 8 public) (drop (8 * c.size-size.ensures.size i) private) in
    let claims = subst (λ (T : Type 0). Holds ops new public private ↔ (Holds ops old public private × T)) same (adds.claims public private inputs) in
    stated_satisfied c.in-Ok.circuit old new public private (AreStated private p.fields p.shows (drop 8 public) (drop (8 * p.size) private)) c.valid_laws.ensures c.in-Ok.ensures.version
    (later.publics ∙ sym c.in-Ok.ensures.publics) (later.privates ∙ sym c.in-Ok.ensures.privates) (c.in-Ok.ensures.holds public private later) claims before
