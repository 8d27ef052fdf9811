use Rattle.std.proofs.Common.{◌≡◌, ℕ, ◌+◌, ◌*◌, ◌<◌, length}
use Rattle.lzk_field.specs.Sums.{entry}
use Rattle.lzk_ligero_answers.proofs.rows.gather.Given as goal

abbrev pub invariant-loop-i : goal.invariant-loop-i
invariant-loop-i g l =
    let o = g.F.Field.ops in
    (length l.column ≡ length l.fn.column) × ((i : ℕ) → i < l.i → entry o l.column i ≡ entry o l.fn.table ((l.fn.first + i) * l.fn.width + l.fn.k))
