use Rattle.std.proofs.Common.{◌≡◌, ◌<◌, ◌≤◌, length, ap, ◌∙◌, arith}
use Rattle.lzk_field.specs.Sums.{entry, minus}
use Rattle.lzk_afft.proofs.Writes.{both, read_at, written_more, written_rest}
use Rattle.lzk_afft.proofs.butterflies.subtract_multiples.Goals as goal

pub loop-i-preserved : goal.loop-i-preserved
loop-i-preserved g c =
    let o = g.F.Field.ops in
    let old = c.args.low.now in
    let high = c.args.high.now in
    let t = c.args.twiddle in
    let low = c.loop-i.low in
    let i = c.loop-i.i in
    let inv = c.loop-i.invariant in
    let below : i < length low = omega (arith, c.loop-i-test.true, c.loop-i.auto.low) in
    let p = o.times t (entry o high i) in
    let a : c.index-low-i.result ≡ entry o old i = read_at o low i c.index-low-i.result below c.index-low-i.is ∙ inv.rest i (omega arith) in
    let b : c.mul.result ≡ p = c.mul.ensures ∙ ap (o.times t) (read_at o high i c.index-high-i.result (omega (arith, c.loop-i-test.true, c.requires)) c.index-high-i.is) in
    record {
      done =
          written_more o (λ j z. z ≡ minus o (entry o old j) (o.times t (entry o high j))) low i c.sub.result below inv.done
          (c.sub.ensures ∙ both (minus o) c.index-low-i.result c.mul.result (entry o old i) p a b);
      rest = written_rest o old low i c.sub.result inv.rest;
    }
