use Rattle.std.proofs.Common.{◌≡◌, ◌++◌, ◌∙◌, ap, sym, subst, length, arith, List}
use Rattle.std.specs.List.{AllByRecursion}
use Rattle.std.specs.Prelude.{replicate}
use Rattle.lzk_goldilocks.specs.Elements.{ops}
use Rattle.lzk_goldilocks.specs.declared.element.Gold.{Gold}
use Rattle.lzk_sha_circuit.specs.Digest.{AreBytes}
use Rattle.lzk_policy.specs.declared.policy.Show.{Show}
use Rattle.lzk_policy.specs.Policies.{IsShowOf}
use Rattle.lzk_policy_circuit.specs.Meaning.{IsShown}
use Rattle.lzk_policy_circuit.specs.Met.{Satisfy}
use Rattle.lzk_policy_inputs.specs.Refused.{IsRight, AtAll}
use Rattle.lzk_policy_inputs.proofs.Shows.{whole, at_all, public_is, meant_is}
use Rattle.lzk_policy_inputs.specs.Filled.{meant_of}
use Rattle.lzk_policy_inputs.proofs.inputs.policy_inputs.Goals as goal

pub append_hash-requires : goal.append_hash-requires
append_hash-requires c = omega (arith, c.in_ok-check.ensures.right.size, c.check.ensures.policy.block)

pub append_shows-requires-clause-shows : goal.append_shows-requires-clause-shows
append_shows-requires-clause-shows c =
    let p = c.args.policy.now in
    subst (λ (l : List Show). AllByRecursion (IsShowOf p.fields) l) (sym c.shows.ensures) c.check.ensures.policy.shows

pub append_shows-requires-clause-right : goal.append_shows-requires-clause-right
append_shows-requires-clause-right c =
    let p = c.args.policy.now in
    let r = c.in_ok-check.ensures.right in
    subst (λ (l : List Show). AtAll (IsRight c.args.bytes.now) p.fields l c.args.values.now) (sym c.shows.ensures)
    (at_all c.args.bytes.now p.fields p.shows c.args.values.now r.count r.kinds r.truths)

pub returns-clause-public : goal.returns-clause-public
returns-clause-public c =
    public_is c.args.policy.now c.args.bytes.now c.args.values.now c.shows.result.now c.shows.ensures c.new-draft.result.public.items c.append_hash.new.self.public.items c.append_shows.new.self.public.items
    c.new-draft.ensures.public c.in_ok-append_hash.ensures.public c.in_ok-append_shows.ensures.public

meant_there : (c : goal.After-drop-draft-2) → c.extend_from_slice.new.self.items ≡ meant_of c.args.policy.now c.args.bytes.now c.args.values.now
meant_there c =
    meant_is c.args.policy.now c.args.bytes.now c.args.values.now c.shows.result.now c.shows.ensures c.new-draft.result.stated.items c.append_hash.new.self.stated.items c.append_shows.new.self.stated.items
    c.new-draft.result.hashed.items c.append_hash.new.self.hashed.items c.append_shows.new.self.hashed.items c.extend_from_slice.new.self.items
    c.in_ok-check.ensures.right.size c.new-draft.ensures.stated c.new-draft.ensures.hashed
    c.in_ok-append_hash.ensures.stated c.in_ok-append_shows.ensures.stated c.in_ok-append_hash.ensures.hashed c.in_ok-append_shows.ensures.hashed
    (c.in_ok-extend_from_slice.ensures.items ∙ ap (λ (l : List Gold). c.append_shows.new.self.stated.items ++ l) c.deref.ensures.value)

pub returns-clause-private : goal.returns-clause-private
returns-clause-private c =
    let p = c.args.policy.now in
    let bytes : AreBytes c.args.bytes.now = λ k lt. omega (arith, c.type_inv.bytes k) in
    let w = whole p c.args.bytes.now c.args.values.now c.check.ensures.policy bytes c.in_ok-check.ensures.right in
    let meant = meant_there c in
    c.in_ok-extend_from_slice-2.ensures.items ∙ (λ i. meant i ++ (c.deref-2.ensures.value ∙ c.in_ok-idle.ensures ∙ ap (λ n. replicate n ops.zero) c.idle_count.ensures) i)

pub returns-clause-shown : goal.returns-clause-shown
returns-clause-shown c =
    let bytes : AreBytes c.args.bytes.now = λ k lt. omega (arith, c.type_inv.bytes k) in
    let w = whole c.args.policy.now c.args.bytes.now c.args.values.now c.check.ensures.policy bytes c.in_ok-check.ensures.right in
    subst (λ (l : List Gold). IsShown c.args.policy.now c.args.bytes.now l) (sym (returns-clause-public c)) w.shown

pub returns-clause-publics : goal.returns-clause-publics
returns-clause-publics c =
    let bytes : AreBytes c.args.bytes.now = λ k lt. omega (arith, c.type_inv.bytes k) in
    let w = whole c.args.policy.now c.args.bytes.now c.args.values.now c.check.ensures.policy bytes c.in_ok-check.ensures.right in
    ap length (returns-clause-public c) ∙ w.publics

pub returns-clause-privates : goal.returns-clause-privates
returns-clause-privates c =
    let bytes : AreBytes c.args.bytes.now = λ k lt. omega (arith, c.type_inv.bytes k) in
    let w = whole c.args.policy.now c.args.bytes.now c.args.values.now c.check.ensures.policy bytes c.in_ok-check.ensures.right in
    ap length (returns-clause-private c) ∙ w.privates

pub returns-clause-satisfied : goal.returns-clause-satisfied
returns-clause-satisfied c =
    let bytes : AreBytes c.args.bytes.now = λ k lt. omega (arith, c.type_inv.bytes k) in
    let w = whole c.args.policy.now c.args.bytes.now c.args.values.now c.check.ensures.policy bytes c.in_ok-check.ensures.right in
    subst (λ (T : Type 0). T) (λ i. Satisfy c.args.policy.now (sym (returns-clause-public c) i) (sym (returns-clause-private c) i)) w.satisfied

pub returns-clause-circuit : goal.returns-clause-circuit
returns-clause-circuit c = λ circuit h.
    (h.satisfied c.append_shows.new.self.public.items c.extend_from_slice-2.new.self.items (returns-clause-publics c) (returns-clause-privates c)).1 (returns-clause-satisfied c)
