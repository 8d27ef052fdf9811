use Rattle.std.proofs.Common.{◌≡◌, ℕ, ◌<◌, ◌≤◌, length}
use Rattle.lzk_field.specs.Sums.{entry}
use Rattle.lzk_ligero_answers.proofs.rows.multiply_list.Given as goal

abbrev pub invariant-loop-k : goal.invariant-loop-k
invariant-loop-k g l =
    let o = g.F.Field.ops in
    (length l.list ≡ length l.fn.list)
    × ((k : ℕ) → k < l.k → entry o l.list k ≡ o.times (entry o l.fn.list k) (entry o l.fn.values k))
    × ((k : ℕ) → l.k ≤ k → entry o l.list k ≡ entry o l.fn.list k)
