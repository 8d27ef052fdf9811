use Rattle.std.proofs.Common.{◌≡◌, ◌∙◌, ap, ◌+◌, arith, take}
use Rattle.std.proofs.lemmas.List.{take_more}
use Rattle.lzk_circuit_reduce.specs.Renumbering.{at}
use Rattle.lzk_level.specs.Bounds.{total}
use Rattle.lzk_level.proofs.GateLaws.{total-append, capped-more}
use Rattle.lzk_level.proofs.measure.add_all.Goals as goal

pub loop-i-preserved : goal.loop-i-preserved
loop-i-preserved c =
    let weights = c.args.weights.now in
    let i = c.loop-i.i in
    let grown : c.args.start + total (take (i + 1) weights) ≡ c.args.start + total (take i weights) + at weights i = omega (arith, ap total (take_more weights i 0 c.loop-i-test.true) ∙ total-append (take i weights) (at weights i)) in
    capped-more c.loop-i.sum (c.args.start + total (take i weights)) (at weights i) c.saturating_add-sum.result (c.args.start + total (take (i + 1) weights)) c.loop-i.invariant c.saturating_add-sum.ensures grown
