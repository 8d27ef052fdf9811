use Rattle.std.proofs.Common.{◌≡◌, ℕ, ◌+◌, ◌<◌, List, length}
use Rattle.lzk_field.specs.Sums.{sum_below, entry}
use Rattle.lzk_poly.specs.Extension.{extension}
use Rattle.lzk_ligero_answers.specs.Coefficients.{AreListed}
use Rattle.lzk_ligero_answers.proofs.TableLaws.{cell}
use Rattle.lzk_ligero_answers.proofs.linear.add_listed.Given as goal

abbrev pub invariant-loop-t : goal.invariant-loop-t
invariant-loop-t g l =
    let o = g.F.Field.ops in
    let p = l.fn.extending.combined.now.table.now.params.now in
    (length l.room ≡ length l.fn.room) × (length l.answer ≡ p.dblock)
    × ((lists : ℕ → List g.row.F.Denot) → AreListed o p l.fn.extending.combined.now.rows l.fn.extending.combined.now.listed.now lists → (k : ℕ) → k < p.dblock → entry o l.answer k
    ≡ o.plus (entry o l.fn.answer k) (sum_below o l.t (λ t. o.times (extension o g.F.Field.coding.element (lists (3 + (l.fn.extending.combined.now.rows + t))) k) (cell o l.fn.extending.combined.now.table.now.width l.fn.extending.combined.now.table.now.values.now (3 + (l.fn.extending.combined.now.rows + t)) k))))
