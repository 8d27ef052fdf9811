use Rattle.std.proofs.Common.{◌≡◌, ◌∙◌, arith, slice_set, get_or-set_other, get_or-set_same, below_more}
use Rattle.lzk_field.specs.Sums.{entry}
use Rattle.lzk_plain.proofs.lists.set_all.Goals as goal

pub loop-i-preserved : goal.loop-i-preserved
loop-i-preserved g c =
    let o = g.F.Field.ops in
    let out = c.loop-i.out in
    let i = c.loop-i.i in
    let value = c.args.value in
    below_more (λ k. entry o (slice_set out i value) k ≡ value) i (λ k h. get_or-set_other out i k value o.zero (omega (arith, h)) ∙ c.loop-i.invariant k h)
    (get_or-set_same out i value o.zero (omega (arith, c.loop-i-test.true, c.loop-i.auto.out)))

pub returns : goal.returns
returns g c = λ i h. c.loop-i.invariant i (omega (arith, h, c.loop-i-test.false, c.loop-i.auto.out))
