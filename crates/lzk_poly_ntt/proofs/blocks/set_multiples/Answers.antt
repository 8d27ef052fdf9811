use Rattle.std.proofs.Common.{◌≡◌, ◌∙◌, arith}
use Rattle.lzk_field.specs.Sums.{entry}
use Rattle.lzk_poly_ntt.proofs.Writes.{both, read_at, written_more}
use Rattle.lzk_poly_ntt.proofs.blocks.set_multiples.Goals as goal

pub loop-j-preserved : goal.loop-j-preserved
loop-j-preserved g c =
    let o = g.F.Field.ops in
    let list = c.args.list.now in
    let factors = c.args.factors.now in
    let j = c.loop-j.j in
    let lengths = c.requires.lengths in
    let value : c.index-list-j.result ≡ entry o list j = read_at o list j c.index-list-j.result (omega (arith, c.loop-j-test.true, lengths.0)) c.index-list-j.is in
    let factor : c.index-factors-j.result ≡ entry o factors j = read_at o factors j c.index-factors-j.result (omega (arith, c.loop-j-test.true, lengths.1)) c.index-factors-j.is in
    written_more o (λ k y. y ≡ o.times (entry o list k) (entry o factors k)) c.loop-j.out j c.times.result (omega (arith, c.loop-j-test.true, c.loop-j.auto.out)) c.loop-j.invariant
    (c.times.ensures ∙ both o.times c.index-list-j.result c.index-factors-j.result (entry o list j) (entry o factors j) value factor)

pub returns : goal.returns
returns g c = λ j h. c.loop-j.invariant j (omega (arith, h, c.loop-j-test.false, c.loop-j.auto.out))

pub bounds-out-j : goal.bounds-out-j
bounds-out-j g c = omega (arith, c.loop-j-test.true, c.loop-j.auto.out)

pub offset_bounds-factors-j : goal.offset_bounds-factors-j
offset_bounds-factors-j g c = omega (arith, c.loop-j-test.true, c.requires.lengths.1)

pub bounds-factors-j : goal.bounds-factors-j
bounds-factors-j g c = omega (arith, c.loop-j-test.true, c.requires.lengths.1)

pub offset_bounds-list-j : goal.offset_bounds-list-j
offset_bounds-list-j g c = omega (arith, c.loop-j-test.true, c.requires.lengths.0)

pub bounds-list-j : goal.bounds-list-j
bounds-list-j g c = omega (arith, c.loop-j-test.true, c.requires.lengths.0)
