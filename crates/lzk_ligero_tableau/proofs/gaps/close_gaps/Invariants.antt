use Rattle.std.proofs.Common.{◌≡◌, ℕ, ◌+◌, ◌*◌, ◌<◌, ◌≤◌, length}
use Rattle.lzk_field.specs.Sums.{entry}
use Rattle.lzk_ligero_tableau.specs.Filled.{place_in_chunks}
use Rattle.lzk_ligero_tableau.proofs.gaps.close_gaps.Given as goal

-- the rows of the first n chunks are moved, and the later chunks stand where they stood
abbrev pub invariant-loop-n : goal.invariant-loop-n
invariant-loop-n g l =
    let o = g.F.Field.ops in
    let p = l.source.given.now.plan.now.params in
    record {
      length : length l.table ≡ length l.fn.table;
      moved : (i k : ℕ) → i < l.n * l.each → i < p.nrow → k < p.ncol → entry o l.table (i * p.ncol + k) ≡ entry o l.fn.table (place_in_chunks l.each p.ncol l.source.room i k);
      later : (j : ℕ) → l.n * l.each * p.ncol ≤ j → entry o l.table j ≡ entry o l.fn.table j;
    }
