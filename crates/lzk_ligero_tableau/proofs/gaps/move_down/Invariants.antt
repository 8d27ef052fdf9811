use Rattle.std.proofs.Common.{◌≡◌, ℕ, ◌+◌, ◌<◌, ◌≤◌}
use Rattle.lzk_field.specs.Sums.{entry}
use Rattle.lzk_ligero_tableau.proofs.gaps.move_down.Given as goal

abbrev pub invariant-loop-k : goal.invariant-loop-k
invariant-loop-k g l =
    let o = g.F.Field.ops in
    record {
      moved : (i : ℕ) → i < l.k → entry o l.table (l.to + i) ≡ entry o l.fn.table (l.from + i);
      before : (j : ℕ) → j < l.to → entry o l.table j ≡ entry o l.fn.table j;
      behind : (j : ℕ) → l.to + l.k ≤ j → entry o l.table j ≡ entry o l.fn.table j;
    }
