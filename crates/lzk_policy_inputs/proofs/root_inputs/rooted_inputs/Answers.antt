use Rattle.std.proofs.Common.{◌++◌, ◌∙◌, List, ℕ, ap, sym, subst, length, map}
use Rattle.lzk_goldilocks.specs.Elements.{of_number}
use Rattle.lzk_sha_circuit.specs.Compression.{IsState}
use Rattle.lzk_sha_path.specs.Climbs.{AreClimbing}
use Rattle.lzk_sha_path.specs.Roots.{root_of}
use Rattle.lzk_policy_inputs.specs.Placed.{IsRootedRefusal}
use Rattle.lzk_policy_inputs.proofs.Under.{if_err}
use Rattle.lzk_policy_inputs.proofs.Placed.{public_is, publics_are, is_shown, privates_are, satisfy}
use Rattle.lzk_policy_inputs.proofs.root_inputs.rooted_inputs.Goals as goal

pub returns-in_err-check_place-clause-refusal : goal.returns-in_err-check_place-clause-refusal
returns-in_err-check_place-clause-refusal c =
    let p = c.args.policy.now in
    let m = c.args.bytes.now in
    let vs = c.args.values.now in
    let n = c.args.place.now.index in
    let depth = length c.args.place.now.siblings.now in
    if_err c.from_residual.result _ (IsRootedRefusal p m vs n depth) c.from_residual.ensures.1
    (λ e g. subst (IsRootedRefusal p m vs n depth) (sym g) (c.in_err-check_place.ensures.refusal p m vs))

pub returns-in_err-shown-clause-refusal : goal.returns-in_err-shown-clause-refusal
returns-in_err-shown-clause-refusal c =
    let p = c.args.policy.now in
    let m = c.args.bytes.now in
    let vs = c.args.values.now in
    let n = c.args.place.now.index in
    let depth = length c.args.place.now.siblings.now in
    if_err c.from_residual-in_err-shown.result _ (IsRootedRefusal p m vs n depth) c.from_residual-in_err-shown.ensures.1
    (λ e g. subst (IsRootedRefusal p m vs n depth) (sym g) (c.in_ok-check_place.ensures.within, c.in_err-shown.ensures.refusal))

pub returns-in-Ok-clause-public : goal.returns-in-Ok-clause-public
returns-in-Ok-clause-public c =
    let siblings = c.args.place.now.siblings.now in
    let n = c.args.place.now.index in
    let leaf = subst IsState c.digest_words-leaf.ensures c.word_laws.ensures in
    let upper = c.in_ok-path.ensures.public ∙ ap (λ (l : List ℕ). map of_number l ++ map of_number (root_of l n siblings)) c.digest_words-leaf.ensures in
    public_is c.args.policy.now c.args.bytes.now c.args.values.now n siblings leaf
    c.in_ok-shown.shown.public c.in_ok-path.path.public.items c.in-Ok.inputs.public c.in_ok-shown.ensures.public upper c.in-Ok.ensures.public

pub returns-in-Ok-clause-shown : goal.returns-in-Ok-clause-shown
returns-in-Ok-clause-shown c =
    let siblings = c.args.place.now.siblings.now in
    let n = c.args.place.now.index in
    let leaf = subst IsState c.digest_words-leaf.ensures c.word_laws.ensures in
    let upper = c.in_ok-path.ensures.public ∙ ap (λ (l : List ℕ). map of_number l ++ map of_number (root_of l n siblings)) c.digest_words-leaf.ensures in
    is_shown c.args.policy.now c.args.bytes.now c.args.values.now n siblings leaf
    c.in_ok-shown.shown.public c.in_ok-path.path.public.items c.in-Ok.inputs.public c.in_ok-shown.ensures.public upper c.in-Ok.ensures.public
    c.in_ok-shown.ensures.shown c.node_laws.ensures c.in_ok-check_place.ensures.within

pub returns-in-Ok-clause-publics : goal.returns-in-Ok-clause-publics
returns-in-Ok-clause-publics c =
    let siblings = c.args.place.now.siblings.now in
    let n = c.args.place.now.index in
    let leaf = subst IsState c.digest_words-leaf.ensures c.word_laws.ensures in
    let upper = c.in_ok-path.ensures.public ∙ ap (λ (l : List ℕ). map of_number l ++ map of_number (root_of l n siblings)) c.digest_words-leaf.ensures in
    publics_are c.args.policy.now c.args.bytes.now c.args.values.now n siblings leaf
    c.in_ok-shown.shown.public c.in_ok-path.path.public.items c.in-Ok.inputs.public c.in_ok-shown.ensures.public upper c.in-Ok.ensures.public
    c.in_ok-shown.ensures.publics

pub returns-in-Ok-clause-privates : goal.returns-in-Ok-clause-privates
returns-in-Ok-clause-privates c =
    let siblings = c.args.place.now.siblings.now in
    let n = c.args.place.now.index in
    let leaf = subst IsState c.digest_words-leaf.ensures c.word_laws.ensures in
    let upper = c.in_ok-path.ensures.public ∙ ap (λ (l : List ℕ). map of_number l ++ map of_number (root_of l n siblings)) c.digest_words-leaf.ensures in
    privates_are c.args.policy.now c.args.bytes.now c.args.values.now n siblings leaf
    c.in_ok-shown.shown.public c.in_ok-path.path.public.items c.in-Ok.inputs.public c.in_ok-shown.ensures.public upper c.in-Ok.ensures.public
    c.in_ok-shown.shown.private c.in_ok-path.path.private.items c.in-Ok.inputs.private c.in_ok-shown.ensures.privates c.in-Ok.ensures.private
    c.in_ok-path.ensures.private

pub returns-in-Ok-clause-satisfied : goal.returns-in-Ok-clause-satisfied
returns-in-Ok-clause-satisfied c =
    let siblings = c.args.place.now.siblings.now in
    let n = c.args.place.now.index in
    let leaf = subst IsState c.digest_words-leaf.ensures c.word_laws.ensures in
    let upper = c.in_ok-path.ensures.public ∙ ap (λ (l : List ℕ). map of_number l ++ map of_number (root_of l n siblings)) c.digest_words-leaf.ensures in
    let climbing = subst (λ (l : List ℕ). AreClimbing (length siblings) (map of_number l) (map of_number (root_of l n siblings)) c.in_ok-path.path.private.items) c.digest_words-leaf.ensures c.in_ok-path.ensures.satisfying in
    satisfy c.args.policy.now c.args.bytes.now c.args.values.now n siblings leaf
    c.in_ok-shown.shown.public c.in_ok-path.path.public.items c.in-Ok.inputs.public c.in_ok-shown.ensures.public upper c.in-Ok.ensures.public
    c.in_ok-shown.shown.private c.in_ok-path.path.private.items c.in-Ok.inputs.private c.in_ok-shown.ensures.privates c.in-Ok.ensures.private
    c.in_ok-shown.ensures.satisfied climbing
