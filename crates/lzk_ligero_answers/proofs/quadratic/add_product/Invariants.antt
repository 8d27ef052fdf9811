use Rattle.std.proofs.Common.{◌≡◌, ℕ, ◌<◌, ◌≤◌, length}
use Rattle.lzk_field.specs.Sums.{entry}
use Rattle.lzk_ligero_answers.proofs.quadratic.add_product.Given as goal

abbrev pub invariant-loop-k : goal.invariant-loop-k
invariant-loop-k g l =
    let o = g.F.Field.ops in
    (length l.answer ≡ length l.fn.answer)
    × ((k : ℕ) → k < l.k → entry o l.answer k ≡ o.plus (entry o l.fn.answer k) (o.times l.fn.by (o.times (entry o l.fn.x k) (entry o l.fn.y k))))
    × ((k : ℕ) → l.k ≤ k → entry o l.answer k ≡ entry o l.fn.answer k)
