use Rattle.std.proofs.Common.{◌≡◌, ◌+◌, ◌≤◌, ◌++◌, length, map, take}
use Rattle.lzk_circuit_reduce.specs.Rows.{placed}
use Rattle.lzk_circuit_reduce.proofs.rows.append.Given as goal

abbrev pub invariant-loop-term : goal.invariant-loop-term
invariant-loop-term g l = record { items : l.terms.items ≡ l.fn.terms.items ++ map (placed l.g) (take l.term-index l.row); room : length l.fn.terms.items + length l.row ≤ l.terms.cap }
