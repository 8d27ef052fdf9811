use Rattle.std.proofs.Common.{◌≡◌, ◌≢◌, ℕ, inl, inr, ◌+◌, ◌<◌, ◌≤◌, arith, None, get_or, length}
use Rattle.std.proofs.lemmas.Bool.{cases_lt}
use Rattle.lzk_circuit_reduce.proofs.WireLaws.{before-most, before-more, before-within, before-ends, before-past}
use Rattle.lzk_circuit_reduce.proofs.renumber.end_of.Goals as goal

above : (m n : ℕ) → n ≤ m → m ≢ n → n + 1 ≤ m
above m n l d = elim (cases_lt n m) [ inl k ↦ omega (arith, k) | inr k ↦ absurd (d (omega (arith, l, k))) ]

pub loop-end-init : goal.loop-end-init
loop-end-init g c =
    let ts = c.args.terms.now in
    (omega arith, omega (arith, c.requires.start, before-most c.args.g ts), λ wires width h. omega (arith, c.requires.start, before-more c.args.g (c.args.g + 1) ts (omega arith)))

pub loop-end-preserved : goal.loop-end-preserved
loop-end-preserved g c =
    let ts = c.args.terms.now in
    let i = c.loop-end.end in
    let t = c.index-terms-end.result in
    let same : (get_or ts i t).g ≡ c.args.g = c.if-terms-end.true in
    let l : i < length ts = c.loop-end-test.true in (
      omega (arith, c.loop-end.invariant.0),
      omega (arith, l),
      λ wires width h. omega (arith, before-within g.F.Field.ops wires width (c.args.g + 1) i None ts t h l (omega (arith, same))),
    )

pub returns-else-terms-end-clause-end : goal.returns-else-terms-end-clause-end
returns-else-terms-end-clause-end g c wires width h =
    let o = g.F.Field.ops in
    let ts = c.args.terms.now in
    let i = c.loop-end.end in
    let t = c.index-terms-end.result in
    let l : i < length ts = c.loop-end-test.true in
    let past : c.args.g ≤ (get_or ts i t).g = before-past o wires width c.args.g i None ts t h l (omega (arith, c.requires.start, c.loop-end.invariant.0)) in
    let later : c.args.g + 1 ≤ (get_or ts i t).g = above (get_or ts i t).g c.args.g past c.if-terms-end.false in
    omega (arith, before-ends o wires width (c.args.g + 1) i None ts t h l later, c.loop-end.invariant.2 wires width h)

pub returns-after-loop-end-clause-end : goal.returns-after-loop-end-clause-end
returns-after-loop-end-clause-end g c wires width h =
    omega (arith, c.loop-end-test.false, before-most (c.args.g + 1) c.args.terms.now, c.loop-end.invariant.2 wires width h)
