use Rattle.std.proofs.Common.{◌≡◌, ℕ, ◌+◌, ◌*◌, ◌<◌}
use Rattle.lzk_field.specs.Sums.{entry}
use Rattle.lzk_ligero_tableau.proofs.columns.read_column.Given as goal

abbrev pub invariant-loop-i : goal.invariant-loop-i
invariant-loop-i g l =
    let o = g.F.Field.ops in
    (k : ℕ) → k < l.i → entry o l.out k ≡ entry o l.table.rows.now (k * l.table.params.now.ncol + (l.table.params.now.dblock + l.j))
