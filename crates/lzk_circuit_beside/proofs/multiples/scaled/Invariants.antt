use Rattle.std.proofs.Common.{◌≡◌, ◌≤◌, length, map, take}
use Rattle.lzk_circuit_reduce.specs.Rows.{multiplied}
use Rattle.lzk_circuit_beside.proofs.multiples.scaled.Given as goal

abbrev pub invariant-loop-term : goal.invariant-loop-term
invariant-loop-term g l = record { items : l.multiple.items ≡ map (multiplied g.F.Field.ops l.factor) (take l.term-index l.row); room : length l.row ≤ l.multiple.cap }
