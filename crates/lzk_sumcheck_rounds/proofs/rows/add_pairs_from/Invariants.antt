use Rattle.std.proofs.Common.{◌≡◌, ℕ, ◌+◌, ◌<◌, drop, length}
use Rattle.lzk_field.specs.Sums.{entry}
use Rattle.lzk_sumcheck_rounds.specs.Rows.{pairs_row}
use Rattle.lzk_sumcheck_rounds.proofs.rows.add_pairs_from.Given as goal

abbrev pub invariant-loop-pair : goal.invariant-loop-pair
invariant-loop-pair g l =
    let o = g.F.Field.ops in
    (length l.rows ≡ length l.fn.rows)
    × ((i : ℕ) → i < length l.fn.rows → o.plus (entry o l.rows i) (pairs_row o (drop l.pair-index l.pairs) l.second (l.from + i)) ≡ o.plus (entry o l.fn.rows i) (pairs_row o l.pairs l.second (l.from + i)))
