use Rattle.std.proofs.Common.{◌≡◌, ◌<◌, length, ap, ◌∙◌, arith, slice_set, get_or-set_other, get_or-set_same, below_more}
use Rattle.std.proofs.lemmas.List.{get_or_default}
use Rattle.lzk_field.specs.Sums.{entry}
use Rattle.lzk_mle.proofs.tables.fill_ones.Goals as goal

pub loop-i-preserved : goal.loop-i-preserved
loop-i-preserved g c =
    let o = g.F.Field.ops in
    let low = c.args.low.now in
    let high = c.loop-i.high in
    let i = c.loop-i.i in
    let x = c.args.x in
    let y = c.mul.result in
    let inside : i < length high = omega (arith, c.loop-i-test.true, c.loop-i.auto.high, c.requires) in
    let here : y ≡ o.times x (entry o low i) = c.mul.ensures ∙ ap (o.times x) (c.index-low-i.is ∙ get_or_default low i c.index-low-i.result o.zero c.loop-i-test.true) in
    record {
      products =
          below_more (λ k. entry o (slice_set high i y) k ≡ o.times x (entry o low k)) i (λ k h. get_or-set_other high i k y o.zero (omega (arith, h)) ∙ c.loop-i.invariant.products k h)
          (get_or-set_same high i y o.zero inside ∙ here);
    }
