use Rattle.std.proofs.Common.{◌≡◌, ℕ, ◌+◌, ◌*◌, ◌<◌, ◌≤◌, length}
use Rattle.lzk_field.specs.Sums.{sum_below, entry}
use Rattle.lzk_ligero_answers.proofs.rows.add_products.Given as goal

abbrev pub invariant-loop-k : goal.invariant-loop-k
invariant-loop-k g l =
    let o = g.F.Field.ops in
    let size = length l.fn.out in
    (length l.out ≡ size) × (length l.column ≡ l.fn.factors.rows)
    × ((k : ℕ) → k < l.k → entry o l.out k ≡ o.plus (entry o l.fn.out k)
    (sum_below o 4 (λ f. o.times (entry o l.fn.values (f * size + k)) (sum_below o l.fn.factors.rows (λ i. o.times (entry o l.fn.factors.row_factors.now (f * l.fn.factors.rows + i)) (entry o l.fn.factors.table.now.values.now ((3 + i) * l.fn.factors.table.now.width + (l.fn.from + k))))))))
    × ((k : ℕ) → l.k ≤ k → entry o l.out k ≡ entry o l.fn.out k)
