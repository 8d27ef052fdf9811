use Rattle.std.proofs.Common.{◌≡◌, ◌+◌, ◌≤◌, length, ◌∙◌, arith, get_or-set_other}
use Rattle.lzk_field.specs.Sums.{entry}
use Rattle.lzk_poly_ntt.proofs.Writes.{both, read_at, written_more, written_top}
use Rattle.lzk_poly_ntt.proofs.blocks.weigh.Goals as goal

pub loop-h-preserved : goal.loop-h-preserved
loop-h-preserved g c =
    let o = g.F.Field.ops in
    written_more o (λ k y. y ≡ o.zero) c.loop-h.out c.loop-h.h c.zero.result (omega (arith, c.loop-h-test.true, c.loop-h.auto.out, c.requires.room)) c.loop-h.invariant c.zero.ensures

pub loop-i-init : goal.loop-i-init
loop-i-init g c = record { before = λ j h. c.loop-h.invariant j (omega (arith, h, c.loop-h-test.false)); near = λ j h. absurd (omega (arith, h)) }

pub loop-i-preserved : goal.loop-i-preserved
loop-i-preserved g c =
    let o = g.F.Field.ops in
    let values = c.args.values.now in
    let weights = c.args.weights.now in
    let skip = c.args.skip in
    let out = c.loop-i.out in
    let i = c.loop-i.i in
    let inv = c.loop-i.invariant in
    let value : c.index-values-i.result ≡ entry o values i = read_at o values i c.index-values-i.result c.loop-i-test.true c.index-values-i.is in
    let weight : c.index-weights-i.result ≡ entry o weights i = read_at o weights i c.index-weights-i.result (omega (arith, c.loop-i-test.true, c.requires.same)) c.index-weights-i.is in
    record {
      before = λ j h. get_or-set_other out (skip + i) j c.mul.result o.zero (omega (arith, h)) ∙ inv.before j h;
      near =
          written_top o (λ j y. y ≡ o.times (entry o values j) (entry o weights j)) skip out i c.mul.result (omega (arith, c.loop-i-test.true, c.loop-i.auto.out, c.loop-h.auto.out, c.requires.room)) inv.near
          (c.mul.ensures ∙ both o.times c.index-values-i.result c.index-weights-i.result (entry o values i) (entry o weights i) value weight);
    }

pub loop-k-init : goal.loop-k-init
loop-k-init g c =
    let inv = c.loop-i.invariant in
    record { before = inv.before; near = λ j h. inv.near j (omega (arith, h, c.loop-i-test.false)); far = λ j p q. absurd (omega (arith, p, q)) }

pub loop-k-preserved : goal.loop-k-preserved
loop-k-preserved g c =
    let o = g.F.Field.ops in
    let skip = c.args.skip in
    let out = c.loop-k.out in
    let k = c.loop-k.k in
    let zero = c.zero-in-loop-k.result in
    let inv = c.loop-k.invariant in
    record {
      before = λ j h. get_or-set_other out k j zero o.zero (omega (arith, h, c.loop-k.auto.k)) ∙ inv.before j h;
      near = λ j h. get_or-set_other out k (skip + j) zero o.zero (omega (arith, h, c.loop-k.auto.k)) ∙ inv.near j h;
      far = λ j p q.
          written_more o (λ i y. skip + length c.args.values.now ≤ i → y ≡ o.zero) out k zero (omega (arith, c.loop-k-test.true, c.loop-k.auto.out)) (λ i h l. inv.far i l h) (λ _. c.zero-in-loop-k.ensures) j q p;
    }

pub returns-clause-before : goal.returns-clause-before
returns-clause-before g c = c.loop-k.invariant.before

pub returns-clause-near : goal.returns-clause-near
returns-clause-near g c = c.loop-k.invariant.near

pub returns-clause-far : goal.returns-clause-far
returns-clause-far g c = λ i p h. c.loop-k.invariant.far i p (omega (arith, h, c.loop-k-test.false, c.loop-k.auto.out))

pub loop-h-init : goal.loop-h-init
loop-h-init g c = λ j h. absurd (omega (arith, h))

pub bounds-out-h : goal.bounds-out-h
bounds-out-h g c = omega (arith, c.loop-h-test.true, c.loop-h.auto.out, c.requires.room)

pub offset_bounds-values-i : goal.offset_bounds-values-i
offset_bounds-values-i g c = omega (arith, c.loop-i-test.true)

pub bounds-values-i : goal.bounds-values-i
bounds-values-i g c = omega (arith, c.loop-i-test.true)

pub offset_bounds-weights-i : goal.offset_bounds-weights-i
offset_bounds-weights-i g c = omega (arith, c.loop-i-test.true, c.requires.same)

pub bounds-weights-i : goal.bounds-weights-i
bounds-weights-i g c = omega (arith, c.loop-i-test.true, c.requires.same)

pub bounds-out-skip : goal.bounds-out-skip
bounds-out-skip g c = omega (arith, c.loop-i-test.true, c.loop-i.auto.out, c.loop-h.auto.out, c.requires.room)

pub bounds-out-k : goal.bounds-out-k
bounds-out-k g c = omega (arith, c.loop-k-test.true, c.loop-k.auto.out)
