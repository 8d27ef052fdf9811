use Rattle.lzk_level.proofs.SomeCircuits.{some_circuit}
use Rattle.lzk_level.proofs.SomeCircuitsV2.{some_circuit_v2}
use Rattle.lzk_level.proofs.laws.compile_laws.Goals as goal

pub returns : goal.returns
returns c = record { some = some_circuit; some_v2 = some_circuit_v2 }
