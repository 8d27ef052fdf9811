use Rattle.std.proofs.Common.{◌≡◌, ℕ, ◌+◌, ◌*◌, ◌<◌, ◌≤◌, length}
use Rattle.lzk_field.specs.Sums.{sum_below, entry}
use Rattle.lzk_ligero_answers.proofs.rows.add_group.Given as goal

abbrev pub invariant-loop-k : goal.invariant-loop-k
invariant-loop-k g l =
    let o = g.F.Field.ops in
    (length l.out ≡ length l.fn.out) × (length l.column ≡ length l.fn.rows.factors.now)
    × ((k : ℕ) → k < l.k → entry o l.out k ≡ o.plus (entry o l.fn.out k) (sum_below o (length l.fn.rows.factors.now) (λ i. o.times (entry o l.fn.rows.factors.now i) (entry o l.fn.rows.table.now ((l.fn.rows.first + i) * l.fn.rows.width + k)))))
    × ((k : ℕ) → l.k ≤ k → entry o l.out k ≡ entry o l.fn.out k)
