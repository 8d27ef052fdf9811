use Rattle.std.proofs.Common.{◌≡◌, length, subst, sym, arith}
use Rattle.lzk_circuit.specs.Valid.{IsPlaced}
use Rattle.lzk_circuit.proofs.OrderLaws.{placed-distinct, placed-at}
use Rattle.lzk_circuit.proofs.LayerLaws.{walk-starts, walk-step, walk-ends}
use Rattle.lzk_circuit.specs.Wires.{AreDistinct}
use Rattle.std.specs.Prelude.{None}
use Rattle.lzk_circuit.proofs.eval.eval_layer.Goals as goal

pub loop-i-init : goal.loop-i-init
loop-i-init g c = λ k l.
    let o = g.F.Field.ops in
    let h = placed-distinct o (length c.args.out.now) (length c.args.below.now) None c.args.terms.now c.requires in
    walk-starts o g.F.Field.laws.ring c.args.terms.now c.args.below.now c.clear.new.out k l
    (subst (λ n. AreDistinct o n (length c.args.below.now) c.args.terms.now) (sym c.clear.ensures.length) h) (c.clear.ensures.zero k)

pub count_term-requires-after_bounds : goal.count_term-requires-after_bounds
count_term-requires-after_bounds g c = λ κs le.
    let o = g.F.Field.ops in
    let h = placed-at (length c.args.out.now) (length c.args.below.now) c.loop-i.i None c.args.terms.now c.index-terms-i.result c.requires c.loop-i-test.true in
    let e : length c.args.out.now ≡ length c.loop-i.out = omega arith in
    subst (λ n. IsPlaced n (length c.args.below.now) c.index-terms-i.result) e
    (subst (λ t. IsPlaced (length c.args.out.now) (length c.args.below.now) t) (sym c.index-terms-i.is) h)

pub loop-i-preserved : goal.loop-i-preserved
loop-i-preserved g c = λ k l.
    let o = g.F.Field.ops in
    let t = c.index-terms-i.result in
    let h = placed-at (length c.args.out.now) (length c.args.below.now) c.loop-i.i None c.args.terms.now t c.requires c.loop-i-test.true in
    let one = subst (λ t. IsPlaced (length c.args.out.now) (length c.args.below.now) t) (sym c.index-terms-i.is) h in
    walk-step o g.F.Field.laws.ring c.args.terms.now c.args.below.now c.loop-i.out c.count_term.new.out c.loop-i.i k t _ c.loop-i-test.true c.index-terms-i.is (omega (arith, one.g)) c.count_term.ensures.sum (c.loop-i.invariant k (omega arith))

pub returns : goal.returns
returns g c = walk-ends g.F.Field.ops g.F.Field.laws.ring c.args.terms.now c.args.below.now c.loop-i.out c.loop-i.i _ c.loop-i-test.false (omega arith) c.loop-i.invariant
