use Rattle.std.proofs.Common.{ap, ◌∙◌}
use Rattle.lzk_field.specs.Sums.{entry}
use Rattle.lzk_accept.specs.Walks.{counted_so_far}
use Rattle.lzk_accept.proofs.TermWalks.{weighted}
use Rattle.lzk_accept.proofs.terms.at_wire.Goals as goal

pub returns-clause-sum : goal.returns-clause-sum
returns-clause-sum g c =
    let o = g.F.Field.ops in
    let weights = c.args.weights.now in
    let base = c.args.base in
    let other = entry o weights c.args.wire in
    let sum = counted_so_far o weights base c.args.walk in
    ap (λ x. o.plus x (o.times other (o.plus c.zero-2.result (o.times base c.zero.result)))) c.summed.ensures
    ∙ ap (λ x. o.plus sum (o.times other (o.plus x (o.times base c.zero.result)))) c.zero-2.ensures
    ∙ ap (λ x. o.plus sum (o.times other (o.plus o.zero (o.times base x)))) c.zero.ensures
    ∙ weighted o g.F.Field.laws.ring sum other base
