use Rattle.std.proofs.Common.{◌≡◌, ℕ, ◌+◌, ◌*◌, ◌<◌, ◌≤◌, length}
use Rattle.lzk_field.specs.Sums.{entry}
use Rattle.lzk_verify.proofs.weighted.weigh_table.Given as goal

abbrev pub invariant-loop-i : goal.invariant-loop-i
invariant-loop-i g l =
    let o = g.F.Field.ops in
    let width = length l.fn.own in
    (length l.table ≡ length l.fn.table)
    × ((j s : ℕ) → j < l.i → s < width → entry o l.table (j * width + s) ≡ o.times (entry o l.fn.table (j * width + s)) (entry o l.fn.own s))
    × ((k : ℕ) → l.i * width ≤ k → entry o l.table k ≡ entry o l.fn.table k)
