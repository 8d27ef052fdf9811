use Rattle.std.proofs.Common.{◌≡◌, ◌++◌, ◌∙◌, arith, length-append}
use Rattle.lzk_policy_inputs.proofs.Depths.{count_none, satisfy_none, shown_none, digest_none}
use Rattle.lzk_policy_inputs.proofs.whole.credential_circuit.Goals as goal

pub returns-then-depth-eq0-clause-shown : goal.returns-then-depth-eq0-clause-shown
returns-then-depth-eq0-clause-shown c = λ words values lw lv.
    let p = c.args.policy.now in
    let none : p.depth ≡ 0 = omega (arith, c.depth-depth.ensures, c.if-depth-eq0.true) in
    let s = c.in_ok-circuit.ensures.shown (words ++ values) (omega (arith, length-append words values, lw, lv)) in (
      λ h. let r = s.0 h in (r.0, shown_none p r.0 words values none lw r.1),
      λ h. s.1 (h.0, digest_none p h.0 words values none lw h.1),
    )

pub returns-then-depth-eq0-clause-satisfied : goal.returns-then-depth-eq0-clause-satisfied
returns-then-depth-eq0-clause-satisfied c = λ words values private lw lv lp.
    let p = c.args.policy.now in
    let none : p.depth ≡ 0 = omega (arith, c.depth-depth.ensures, c.if-depth-eq0.true) in
    let s = c.in_ok-circuit.ensures.satisfied (words ++ values) private (omega (arith, length-append words values, lw, lv)) (lp ∙ count_none p.depth p none) in
    let t = satisfy_none p.depth p words values private none in (λ h. t.0 (s.0 h), λ h. s.1 (t.1 h))
