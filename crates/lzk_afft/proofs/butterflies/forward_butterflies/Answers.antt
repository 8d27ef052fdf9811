use Rattle.std.proofs.Common.{◌≡◌, ◌<◌, ◌≤◌, length, ap, ◌∙◌, arith}
use Rattle.lzk_field.specs.Sums.{entry}
use Rattle.lzk_afft.proofs.Writes.{both, read_at, written_more, written_rest}
use Rattle.lzk_afft.proofs.butterflies.forward_butterflies.Goals as goal

pub loop-i-preserved : goal.loop-i-preserved
loop-i-preserved g c =
    let o = g.F.Field.ops in
    let old_low = c.args.low.now in
    let old_high = c.args.high.now in
    let t = c.args.twiddle in
    let low = c.loop-i.low in
    let high = c.loop-i.high in
    let i = c.loop-i.i in
    let inv = c.loop-i.invariant in
    let below : i < length low = omega (arith, c.loop-i-test.true, c.loop-i.auto.low) in
    let above : i < length high = omega (arith, c.loop-i-test.true, c.loop-i.auto.high, c.requires) in
    let here : i ≤ i = omega arith in
    let x = entry o old_low i in
    let y = entry o old_high i in
    let a : c.index-low-i.result ≡ x = read_at o low i c.index-low-i.result below c.index-low-i.is ∙ inv.rest_low i here in
    let b : c.index-high-i.result ≡ y = read_at o high i c.index-high-i.result above c.index-high-i.is ∙ inv.rest_high i here in
    let b_again : c.index-high-i-in-loop-i.result ≡ y = read_at o high i c.index-high-i-in-loop-i.result above c.index-high-i-in-loop-i.is ∙ inv.rest_high i here in
    let sum : c.add-sum.result ≡ o.plus x (o.times t y) = c.add-sum.ensures ∙ both o.plus c.index-low-i.result c.mul.result x (o.times t y) a (c.mul.ensures ∙ ap (o.times t) b) in
    record {
      lower = written_more o (λ k z. z ≡ o.plus (entry o old_low k) (o.times t (entry o old_high k))) low i c.add-sum.result below inv.lower sum;
      upper =
          written_more o (λ k z. z ≡ o.plus (o.plus (entry o old_low k) (o.times t (entry o old_high k))) (entry o old_high k)) high i c.add.result above inv.upper
          (c.add.ensures ∙ both o.plus c.add-sum.result c.index-high-i-in-loop-i.result (o.plus x (o.times t y)) y sum b_again);
      rest_low = written_rest o old_low low i c.add-sum.result inv.rest_low;
      rest_high = written_rest o old_high high i c.add.result inv.rest_high;
    }
