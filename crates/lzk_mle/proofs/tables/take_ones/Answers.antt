use Rattle.std.proofs.Common.{◌≡◌, ◌<◌, length, ap, ◌∙◌, arith, slice_set, get_or-set_other, get_or-set_same, below_more}
use Rattle.std.proofs.lemmas.List.{get_or_default}
use Rattle.lzk_field.specs.Sums.{entry, minus}
use Rattle.lzk_mle.proofs.tables.take_ones.Goals as goal

pub loop-i-preserved : goal.loop-i-preserved
loop-i-preserved g c =
    let o = g.F.Field.ops in
    let old = c.args.low.now in
    let high = c.args.high.now in
    let low = c.loop-i.low in
    let i = c.loop-i.i in
    let y = c.sub.result in
    let inv = c.loop-i.invariant in
    let inside : i < length low = omega (arith, c.loop-i-test.true, c.loop-i.auto.low, c.requires) in
    let a : c.index-low-i.result ≡ entry o old i = c.index-low-i.is ∙ get_or_default low i c.index-low-i.result o.zero inside ∙ inv.rest i (omega arith) in
    let b : c.index-high-i.result ≡ entry o high i = c.index-high-i.is ∙ get_or_default high i c.index-high-i.result o.zero c.loop-i-test.true in
    let here : y ≡ minus o (entry o old i) (entry o high i) = c.sub.ensures ∙ ap (λ w. minus o w c.index-high-i.result) a ∙ ap (minus o (entry o old i)) b in
    record {
      differences =
          below_more (λ k. entry o (slice_set low i y) k ≡ minus o (entry o old k) (entry o high k)) i (λ k h. get_or-set_other low i k y o.zero (omega (arith, h)) ∙ inv.differences k h)
          (get_or-set_same low i y o.zero inside ∙ here);
      rest = λ k h. get_or-set_other low i k y o.zero (omega (arith, h)) ∙ inv.rest k (omega (arith, h));
    }
