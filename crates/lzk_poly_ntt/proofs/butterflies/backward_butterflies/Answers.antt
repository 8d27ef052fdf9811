use Rattle.std.proofs.Common.{◌≡◌, ◌<◌, ◌≤◌, length, refl, ◌∙◌, arith}
use Rattle.lzk_field.specs.Sums.{entry, minus}
use Rattle.lzk_poly_ntt.proofs.Writes.{both, read_at, written_more, written_rest}
use Rattle.lzk_poly_ntt.proofs.butterflies.backward_butterflies.Goals as goal

pub loop-i-preserved : goal.loop-i-preserved
loop-i-preserved g c =
    let o = g.F.Field.ops in
    let old_low = c.args.low.now in
    let old_high = c.args.high.now in
    let ts = c.args.twiddles.now in
    let low = c.loop-i.low in
    let high = c.loop-i.high in
    let i = c.loop-i.i in
    let inv = c.loop-i.invariant in
    let lengths = c.requires.lengths in
    let below : i < length low = omega (arith, c.loop-i-test.true, c.loop-i.auto.low) in
    let above : i < length high = omega (arith, c.loop-i-test.true, c.loop-i.auto.high, lengths.0) in
    let here : i ≤ i = omega arith in
    let x = entry o old_low i in
    let p = o.times (entry o old_high i) (entry o ts i) in
    let a : c.index-low-i.result ≡ x = read_at o low i c.index-low-i.result below c.index-low-i.is ∙ inv.rest_low i here in
    let a_again : c.index-low-i-in-loop-i.result ≡ x = read_at o low i c.index-low-i-in-loop-i.result below c.index-low-i-in-loop-i.is ∙ inv.rest_low i here in
    let b : c.index-high-i.result ≡ entry o old_high i = read_at o high i c.index-high-i.result above c.index-high-i.is ∙ inv.rest_high i here in
    let turn : c.index-twiddles-i.result ≡ entry o ts i = read_at o ts i c.index-twiddles-i.result (omega (arith, c.loop-i-test.true, lengths.1)) c.index-twiddles-i.is in
    let twiddled : c.times-twiddled.result ≡ p = c.times-twiddled.ensures ∙ both o.times c.index-high-i.result c.index-twiddles-i.result (entry o old_high i) (entry o ts i) b turn in
    record {
      sums =
          written_more o (λ k z. z ≡ o.plus (entry o old_low k) (o.times (entry o old_high k) (entry o ts k))) low i c.add.result below inv.sums
          (c.add.ensures ∙ both o.plus c.index-low-i-in-loop-i.result c.times-twiddled.result x p a_again twiddled);
      differences =
          written_more o (λ k z. z ≡ minus o (entry o old_low k) (o.times (entry o old_high k) (entry o ts k))) high i c.sub.result above inv.differences
          (c.sub.ensures ∙ both (minus o) c.index-low-i.result c.times-twiddled.result x p a twiddled);
      rest_low = written_rest o old_low low i c.add.result inv.rest_low;
      rest_high = written_rest o old_high high i c.sub.result inv.rest_high;
    }

pub loop-i-init : goal.loop-i-init
loop-i-init g c = record { sums = λ i h. absurd (omega (arith, h)); differences = λ i h. absurd (omega (arith, h)); rest_low = λ i h. refl; rest_high = λ i h. refl }

pub bounds-low-i : goal.bounds-low-i
bounds-low-i g c = omega (arith, c.loop-i-test.true, c.loop-i.auto.low)

pub bounds-low-i-in-loop-i : goal.bounds-low-i-in-loop-i
bounds-low-i-in-loop-i g c = omega (arith, c.loop-i-test.true, c.loop-i.auto.low)

pub bounds-low-i-in-loop-i-2 : goal.bounds-low-i-in-loop-i-2
bounds-low-i-in-loop-i-2 g c = omega (arith, c.loop-i-test.true, c.loop-i.auto.low)

pub bounds-high-i : goal.bounds-high-i
bounds-high-i g c = omega (arith, c.loop-i-test.true, c.loop-i.auto.high, c.requires.lengths.0)

pub bounds-high-i-in-loop-i : goal.bounds-high-i-in-loop-i
bounds-high-i-in-loop-i g c = omega (arith, c.loop-i-test.true, c.loop-i.auto.high, c.requires.lengths.0)

pub offset_bounds-twiddles-i : goal.offset_bounds-twiddles-i
offset_bounds-twiddles-i g c = omega (arith, c.loop-i-test.true, c.requires.lengths.1)

pub bounds-twiddles-i : goal.bounds-twiddles-i
bounds-twiddles-i g c = omega (arith, c.loop-i-test.true, c.requires.lengths.1)

pub returns-clause-sums : goal.returns-clause-sums
returns-clause-sums g c = λ i h. c.loop-i.invariant.sums i (omega (arith, h, c.loop-i-test.false, c.loop-i.auto.low))

pub returns-clause-differences : goal.returns-clause-differences
returns-clause-differences g c = λ i h. c.loop-i.invariant.differences i (omega (arith, h, c.loop-i-test.false, c.loop-i.auto.high, c.requires.lengths.0))
