use Rattle.std.proofs.Common.{◌≡◌, ℕ, ◌<◌, ◌≤◌, length, sym, ap, ◌∙◌, arith, slice_set, get_or-set_other, get_or-set_same}
use Rattle.lzk_field.specs.Sums.{entry, minus}
use Rattle.lzk_afft.proofs.Writes.{both, read_at, written_more, written_rest}
use Rattle.lzk_afft.proofs.butterflies.backward_butterflies.Goals as goal

pub loop-i-preserved : goal.loop-i-preserved
loop-i-preserved g c =
    let o = g.F.Field.ops in
    let old_low = c.args.low.now in
    let old_high = c.args.high.now in
    let t = c.args.twiddle in
    let low = c.loop-i.low in
    let high = c.loop-i.high in
    let i = c.loop-i.i in
    let inv = c.loop-i.invariant in
    let up = c.sub-upper.result in
    let below : i < length low = omega (arith, c.loop-i-test.true, c.loop-i.auto.low) in
    let above : i < length high = omega (arith, c.loop-i-test.true, c.loop-i.auto.high, c.requires) in
    let here : i ≤ i = omega arith in
    let x = entry o old_low i in
    let y = entry o old_high i in
    let a : c.index-low-i.result ≡ x = read_at o low i c.index-low-i.result below c.index-low-i.is ∙ inv.rest_low i here in
    let a_again : c.index-low-i-in-loop-i.result ≡ x = read_at o low i c.index-low-i-in-loop-i.result below c.index-low-i-in-loop-i.is ∙ inv.rest_low i here in
    let b : c.index-high-i.result ≡ y = read_at o high i c.index-high-i.result above c.index-high-i.is ∙ inv.rest_high i here in
    let kept : (k : ℕ) → k < i → entry o low k ≡ minus o (entry o old_low k) (o.times t (entry o (slice_set high i up) k)) =
    λ k h. inv.lower k h ∙ ap (λ v. minus o (entry o old_low k) (o.times t v)) (sym (get_or-set_other high i k up o.zero (omega (arith, h)))) in
    let new : c.sub.result ≡ minus o x (o.times t (entry o (slice_set high i up) i)) =
    c.sub.ensures ∙ both (minus o) c.index-low-i-in-loop-i.result c.mul.result x (o.times t up) a_again c.mul.ensures ∙ ap (λ v. minus o x (o.times t v)) (sym (get_or-set_same high i up o.zero above)) in
    record {
      upper = written_more o (λ k z. z ≡ minus o (entry o old_high k) (entry o old_low k)) high i up above inv.upper (c.sub-upper.ensures ∙ both (minus o) c.index-high-i.result c.index-low-i.result y x b a);
      lower = written_more o (λ k z. z ≡ minus o (entry o old_low k) (o.times t (entry o (slice_set high i up) k))) low i c.sub.result below kept new;
      rest_low = written_rest o old_low low i c.sub.result inv.rest_low;
      rest_high = written_rest o old_high high i up inv.rest_high;
    }
