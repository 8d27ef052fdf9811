use Rattle.std.proofs.Common.{◌≡◌, ℕ, ◌+◌, ◌<◌, ◌≤◌, length}
use Rattle.lzk_field.specs.Sums.{entry}
use Rattle.lzk_verify.proofs.weighted.weigh_row.Given as goal

abbrev pub invariant-loop-s : goal.invariant-loop-s
invariant-loop-s g l =
    let o = g.F.Field.ops in
    (length l.table ≡ length l.fn.table)
    × ((k : ℕ) → k < l.s → entry o l.table (l.fn.start + k) ≡ o.times (entry o l.fn.table (l.fn.start + k)) (entry o l.fn.own k))
    × ((k : ℕ) → k < l.fn.start → entry o l.table k ≡ entry o l.fn.table k)
    × ((k : ℕ) → l.fn.start + l.s ≤ k → entry o l.table k ≡ entry o l.fn.table k)
