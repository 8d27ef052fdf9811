use Rattle.std.proofs.Common.{◌≡◌, ℕ, ◌+◌, ◌-◌, ◌↔◌, List, ◌++◌, length, take, drop, ap, sym, subst, arith, length-append, length-drop}
use Rattle.std.proofs.lemmas.List.{length-take-le}
use Rattle.lzk_goldilocks.specs.Elements.{ops, number}
use Rattle.lzk_goldilocks.specs.declared.element.Gold.{Gold}
use Rattle.lzk_circuit.specs.Checks.{IsSatisfied}
use Rattle.lzk_circuit.specs.Valid.{Wiring}
use Rattle.lzk_circuit.specs.Wires.{inputs_of}
use Rattle.lzk_policy_circuit.specs.Layout as layout
use Rattle.lzk_policy_inputs.specs.Causes.{IsRootedCause}
use Rattle.lzk_policy_inputs.proofs.Under.{under_exactly, if_err}
use Rattle.lzk_policy_inputs.proofs.root_circuit.rooted_circuit.Goals as goal

pub returns-clause-shown : goal.returns-clause-shown
returns-clause-shown c = λ root values lr lv.
    let p = c.args.policy.now in
    let shown = c.in_ok-shown.shown in
    let path = c.in_ok-path.path in
    let whole = c.in_ok-whole.whole in
    let made = c.in_ok-whole.ensures in
    let more : length values ≡ c.publics-more.result - 8 = omega (arith, lv, c.publics-more.ensures, c.in_ok-shown.ensures.publics) in
    under_exactly p c.args.depth root values
    (λ digest q. IsSatisfied ops number shown.layers (inputs_of ops (digest ++ values) q))
    (λ digest q. IsSatisfied ops number path.layers (inputs_of ops (digest ++ root) q))
    (λ q. IsSatisfied ops number whole.layers (inputs_of ops (root ++ values) q))
    shown.privates path.privates whole.privates made.privates
    (λ digest e. c.in_ok-shown.ensures.shown (digest ++ values) (omega (arith, length-append digest values, e, lv)))
    (λ digest e. c.in_ok-path.ensures.climbs digest root e lr)
    (λ q long. made.satisfied root values q lr more long)

pub returns-clause-satisfied : goal.returns-clause-satisfied
returns-clause-satisfied c = λ root values q lr lv lp.
    let p = c.args.policy.now in
    let shown = c.in_ok-shown.shown in
    let path = c.in_ok-path.path in
    let whole = c.in_ok-whole.whole in
    let made = c.in_ok-whole.ensures in
    let en = c.in_ok-shown.ensures.privates in
    let em = c.in_ok-path.ensures.privates in
    let n = layout.private_count p in
    let digest = take 8 (drop n q) in
    let more : length values ≡ c.publics-more.result - 8 = omega (arith, lv, c.publics-more.ensures, c.in_ok-shown.ensures.publics) in
    let long : length q ≡ shown.privates + 8 + path.privates = omega (arith, lp, en, em) in
    let S = λ (d l : List Gold). IsSatisfied ops number shown.layers (inputs_of ops (d ++ values) l) in
    let R = λ (d l : List Gold). IsSatisfied ops number path.layers (inputs_of ops (d ++ root) l) in
    let W = IsSatisfied ops number whole.layers (inputs_of ops (root ++ values) q) in
    let both = subst (λ (k : ℕ). W ↔ (S (take 8 (drop k q)) (take k q) × R (take 8 (drop k q)) (drop (k + 8) q))) en (made.satisfied root values q lr more long) in
    let eight : length digest ≡ 8 = length-take-le 8 (drop n q) (omega (arith, length-drop n q, lp)) in
    let a = c.in_ok-shown.ensures.satisfied (digest ++ values) (take n q) (omega (arith, length-append digest values, eight, lv)) (length-take-le n q (omega (arith, lp))) in
    let b = c.in_ok-path.ensures.satisfied digest root (drop (n + 8) q) eight lr (omega (arith, length-drop (n + 8) q, lp)) in (
      λ h. let r = both.0 h in record { shown = a.0 r.0; leaf = b.0 r.1 },
      λ h. both.1 (a.1 h.shown, b.1 h.leaf),
    )

pub joined-requires-clause-more : goal.joined-requires-clause-more
joined-requires-clause-more c =
    let same = ap (λ (w : Wiring Gold). w.publics) c.shown.view_is in
    let most = c.shown.invariant.publics in
    omega (arith, c.publics-more.ensures, same, most)

pub returns-in_err-whole-clause-cause : goal.returns-in_err-whole-clause-cause
returns-in_err-whole-clause-cause c =
    if_err c.from_residual-in_err-whole.result _ (IsRootedCause c.args.policy.now c.args.depth) c.from_residual-in_err-whole.ensures.1
    (λ e g. subst (IsRootedCause c.args.policy.now c.args.depth) (sym g) (c.in_err-whole.ensures.cause c.args.policy.now c.args.depth))
