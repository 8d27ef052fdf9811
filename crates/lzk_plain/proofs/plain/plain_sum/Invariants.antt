use Rattle.std.proofs.Common.{◌≡◌}
use Rattle.lzk_field.specs.Sums.{sum_below}
use Rattle.lzk_sumcheck.specs.Layers.{layer_of_terms}
use Rattle.lzk_sumcheck.specs.Points.{point}
use Rattle.lzk_sumcheck.specs.Rounds.{at}
use Rattle.lzk_plain.proofs.plain.plain_sum.Given as goal

abbrev pub invariant-loop-z : goal.invariant-loop-z
invariant-loop-z g l =
    let o = g.F.Field.ops in
    let s = layer_of_terms o l.terms l.beta l.weights l.values l.bits in
    l.total ≡ sum_below o l.z (λ y. at o s (point o l.bits l.bound l.t y))
