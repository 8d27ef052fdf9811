use Rattle.std.proofs.Common.{◌≡◌, map, drop}
use Rattle.lzk_circuit_reduce.specs.Kept.{place_of}
use Rattle.lzk_circuit_reduce.specs.Hash.{hash_from}
use Rattle.lzk_circuit_reduce.proofs.kept.hash_of.Given as goal

abbrev pub invariant-loop-term : goal.invariant-loop-term
invariant-loop-term g l = hash_from l.hash (map (place_of g.F.Field.coding.number) (drop l.term-index l.row)) ≡ hash_from 0 (map (place_of g.F.Field.coding.number) l.row)
