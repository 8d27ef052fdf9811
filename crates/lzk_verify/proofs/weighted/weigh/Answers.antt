use Rattle.std.proofs.Common.{◌≡◌, ◌+◌, ap, sym, ◌∙◌, arith}
use Rattle.lzk_field.specs.Sums.{entry}
use Rattle.lzk_verify.specs.Extending.{weight}
use Rattle.lzk_verify.proofs.Extended.{are_weighted, kept_weight}
use Rattle.lzk_verify.proofs.weighted.weigh.Goals as goal

pub returns : goal.returns
returns g c =
    let f = g.F.Field in
    let o = f.ops in
    let old = c.args.values.now in
    let new = c.weigh_row.new.table in
    let ws = c.weights.result.now in
    let n = c.args.weights.now.count in
    are_weighted o f.coding.element old new c.weigh_row.ensures.length
    (λ i h.
    let at : 0 + i ≡ i = omega arith in
    ap (entry o new) (sym at)
    ∙ c.weigh_row.ensures.here i (omega (arith, h, c.weights.ensures.0))
    ∙ ap (λ m. o.times (entry o old m) (entry o ws i)) at
    ∙ ap (o.times (entry o old i)) (kept_weight o f.laws.ring f.laws.field f.coding.element ws n i c.weights.ensures (omega (arith, h)) ∙ ap (λ m. weight o f.coding.element m i) (sym c.requires)))
