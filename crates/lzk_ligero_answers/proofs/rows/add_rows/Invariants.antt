use Rattle.std.proofs.Common.{◌≡◌, ℕ, ◌+◌, ◌*◌, ◌<◌, ◌≤◌, length, ◌-◌}
use Rattle.lzk_field.specs.Sums.{sum_below, entry}
use Rattle.lzk_ligero_answers.proofs.rows.add_rows.Given as goal

abbrev pub invariant-loop-start : goal.invariant-loop-start
invariant-loop-start g l =
    let o = g.F.Field.ops in
    (length l.out ≡ length l.fn.out) × (length l.column ≡ length l.fn.column) × (l.start ≤ length l.fn.rows.factors.now)
    × ((k : ℕ) → k < length l.fn.out → entry o l.out k ≡ o.plus (entry o l.fn.out k) (sum_below o l.start (λ i. o.times (entry o l.fn.rows.factors.now i) (entry o l.fn.rows.table.now ((l.fn.rows.first + i) * l.fn.rows.width + k)))))

abbrev pub decreases-loop-start : goal.decreases-loop-start
decreases-loop-start g l = length l.rows.factors.now - l.start
