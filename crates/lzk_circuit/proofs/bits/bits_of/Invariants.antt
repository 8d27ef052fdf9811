use Rattle.std.proofs.Common.{◌≡◌, ◌^◌}
use Rattle.lzk_circuit.proofs.BitLaws.{AllFall}
use Rattle.lzk_circuit.proofs.bits.bits_of.Given as goal

abbrev pub invariant-loop-k : goal.invariant-loop-k
invariant-loop-k l = record { power : l.power ≡ 2 ^ l.k; below : AllFall l.wires l.k }
