use Rattle.std.proofs.Common.{◌≡◌, ℕ, ◌+◌, ◌*◌, ◌<◌, length}
use Rattle.lzk_field.specs.Sums.{sum_below, minus, entry}
use Rattle.lzk_ligero_answers.proofs.TableLaws.{cell}
use Rattle.lzk_ligero_answers.proofs.quadratic.quadratic_into.Given as goal

abbrev pub invariant-loop-t : goal.invariant-loop-t
invariant-loop-t g l =
    let o = g.F.Field.ops in
    let here = cell o l.fn.table.width l.fn.table.values.now in
    (length l.answer ≡ l.fn.table.params.now.dblock)
    × ((k : ℕ) → k < l.fn.table.params.now.dblock → entry o l.answer k ≡ o.plus (here 2 k) (sum_below o l.t (λ t. let i = 3 + l.fn.table.params.now.nwrow + 3 * t in o.times (entry o l.fn.v t) (minus o (o.times (here i k) (here (i + 1) k)) (here (i + 2) k)))))
