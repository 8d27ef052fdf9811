use Rattle.std.proofs.Common.{◌≡◌, ap, ◌∙◌, arith}
use Rattle.lzk_field.specs.Sums.{entry}
use Rattle.lzk_afft.proofs.Writes.{read_at, written_more}
use Rattle.lzk_afft.proofs.twiddles.shifted.Goals as goal

pub loop-i-preserved : goal.loop-i-preserved
loop-i-preserved g c =
    let o = g.F.Field.ops in
    let low = c.args.low.now in
    let by = c.args.by in
    let i = c.loop-i.i in
    written_more o (λ k y. y ≡ o.plus by (entry o low k)) c.loop-i.high i c.add.result (omega (arith, c.loop-i-test.true, c.loop-i.auto.high)) c.loop-i.invariant
    (c.add.ensures ∙ ap (o.plus by) (read_at o low i c.index-low-i.result (omega (arith, c.loop-i-test.true, c.requires)) c.index-low-i.is))
