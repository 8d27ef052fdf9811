use Rattle.std.proofs.Common.{◌≡◌, ℕ, ◌-◌, ◌<◌, length}
use Rattle.lzk_field.specs.Sums.{entry}
use Rattle.lzk_plain.proofs.quotients.fill_block.Given as goal

abbrev pub invariant-loop-k : goal.invariant-loop-k
invariant-loop-k g l =
    let o = g.F.Field.ops in
    let last = length l.fn.block - 1 in
    (k : ℕ) → k < l.k → entry o l.block k ≡ o.times (entry o l.values (last - k)) (entry o l.weights (last - k))
