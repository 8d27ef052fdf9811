use Rattle.lzk_goldilocks.specs.Elements.{number}
use Rattle.lzk_circuit.specs.Checks.{HasRoom}
use Rattle.lzk_bench.proofs.circuits.repeat.Given as goal

abbrev pub invariant-loop : goal.invariant-loop
invariant-loop l = HasRoom number l.circuit l.values
