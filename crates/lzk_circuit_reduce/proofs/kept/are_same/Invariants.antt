use Rattle.std.proofs.Common.{◌≡◌, map, take}
use Rattle.lzk_circuit_reduce.specs.Kept.{place_of}
use Rattle.lzk_circuit_reduce.proofs.kept.are_same.Given as goal

abbrev pub invariant-loop-i : goal.invariant-loop-i
invariant-loop-i g l = map (place_of g.F.Field.coding.number) (take l.i l.own) ≡ map (place_of g.F.Field.coding.number) (take l.i l.row)
