use Rattle.std.proofs.Common.{◌≡◌, ◌<◌, length, refl, ◌∙◌, arith}
use Rattle.lzk_field.specs.Sums.{entry}
use Rattle.lzk_poly_ntt.proofs.Writes.{both, read_at, written_more, written_rest}
use Rattle.lzk_poly_ntt.proofs.blocks.add_multiples.Goals as goal

pub loop-j-preserved : goal.loop-j-preserved
loop-j-preserved g c =
    let o = g.F.Field.ops in
    let old = c.args.out.now in
    let list = c.args.list.now in
    let factors = c.args.factors.now in
    let out = c.loop-j.out in
    let j = c.loop-j.j in
    let inv = c.loop-j.invariant in
    let lengths = c.requires.lengths in
    let inside : j < length out = omega (arith, c.loop-j-test.true, c.loop-j.auto.out) in
    let p = o.times (entry o list j) (entry o factors j) in
    let value : c.index-list-j.result ≡ entry o list j = read_at o list j c.index-list-j.result (omega (arith, c.loop-j-test.true, lengths.0)) c.index-list-j.is in
    let factor : c.index-factors-j.result ≡ entry o factors j = read_at o factors j c.index-factors-j.result (omega (arith, c.loop-j-test.true, lengths.1)) c.index-factors-j.is in
    let product : c.times.result ≡ p = c.times.ensures ∙ both o.times c.index-list-j.result c.index-factors-j.result (entry o list j) (entry o factors j) value factor in
    let sum : c.index-out-j.result ≡ entry o old j = read_at o out j c.index-out-j.result inside c.index-out-j.is ∙ inv.rest j (omega arith) in
    record {
      done =
          written_more o (λ k y. y ≡ o.plus (entry o old k) (o.times (entry o list k) (entry o factors k))) out j c.add.result inside inv.done
          (c.add.ensures ∙ both o.plus c.index-out-j.result c.times.result (entry o old j) p sum product);
      rest = written_rest o old out j c.add.result inv.rest;
    }

pub returns : goal.returns
returns g c = λ j h. c.loop-j.invariant.done j (omega (arith, h, c.loop-j-test.false, c.loop-j.auto.out))

pub loop-j-init : goal.loop-j-init
loop-j-init g c = record { done = λ k h. absurd (omega (arith, h)); rest = λ k h. refl }

pub bounds-out-j : goal.bounds-out-j
bounds-out-j g c = omega (arith, c.loop-j-test.true, c.loop-j.auto.out)

pub bounds-out-j-in-loop-j : goal.bounds-out-j-in-loop-j
bounds-out-j-in-loop-j g c = omega (arith, c.loop-j-test.true, c.loop-j.auto.out)

pub offset_bounds-factors-j : goal.offset_bounds-factors-j
offset_bounds-factors-j g c = omega (arith, c.loop-j-test.true, c.requires.lengths.1)

pub bounds-factors-j : goal.bounds-factors-j
bounds-factors-j g c = omega (arith, c.loop-j-test.true, c.requires.lengths.1)

pub offset_bounds-list-j : goal.offset_bounds-list-j
offset_bounds-list-j g c = omega (arith, c.loop-j-test.true, c.requires.lengths.0)

pub bounds-list-j : goal.bounds-list-j
bounds-list-j g c = omega (arith, c.loop-j-test.true, c.requires.lengths.0)
