use Rattle.std.proofs.Common.{◌≡◌, ◌-◌}
use Rattle.lzk_field.specs.Sums.{sum_below, minus, entry}
use Rattle.lzk_plain.proofs.extender.Row.quotients.Given as goal

abbrev pub invariant-loop-k : goal.invariant-loop-k
invariant-loop-k g l =
    let m = g.F.Field in
    let o = m.ops in
    (l.at ≡ m.coding.element l.fn.j)
    × (l.total ≡ sum_below o l.k (λ k. o.times (entry o l.block k) (o.inverse (minus o l.at (m.coding.element (l.end - 1 - k))))))
