use Rattle.std.proofs.Common.{◌≡◌, map, take}
use Rattle.std.proofs.Math.ListN.{replicate}
use Rattle.lzk_circuit.specs.Valid.{widths}
use Rattle.lzk_circuit.proofs.values.Values.new.Given as goal

abbrev pub invariant-loop-l : goal.invariant-loop-l
invariant-loop-l g l = map (λ list. list.items) l.lists.items ≡ map (λ n. replicate n g.F.Field.ops.zero) (take l.l (widths l.circuit))
