use Rattle.std.proofs.Common.{◌≡◌, ◌+◌, ◌-◌, ◌<◌, ap, ◌∙◌, arith, length}
use Rattle.std.proofs.lemmas.List.{get_or_default}
use Rattle.lzk_poly.specs.Weights.{passed}
use Rattle.lzk_verify.proofs.Extended.{extended}
use Rattle.lzk_verify.proofs.extending.last_factor.Goals as goal

pub returns : goal.returns
returns g c = λ inverses long are.
    let f = g.F.Field in
    let o = f.ops in
    let count = c.args.at.now.weights.now.count in
    let products = c.passed.result.now in
    let all = c.passed.ensures in
    let at = c.args.at.now.point - c.count.result in
    let there : count + at ≡ c.args.at.now.point = omega (arith, c.count.ensures.value) in
    let within : at < length products = omega (arith, all.0) in
    extended f.laws inverses count c.args.at.now.point c.index-passed-place.result long c.args.at.now.behind (omega (arith, c.args.at.now.reached, c.count.ensures.limit)) are
    (c.index-passed-place.is ∙ get_or_default products at c.index-passed-place.result o.zero within ∙ all.1 at within ∙ ap (λ i. passed o f.coding.element count (f.coding.element i)) there)
