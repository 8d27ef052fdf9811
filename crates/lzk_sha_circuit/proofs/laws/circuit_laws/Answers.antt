use Rattle.lzk_goldilocks.specs.Prime.{p}
use Rattle.lzk_goldilocks.specs.Elements.{ops, of_number}
use Rattle.lzk_sha_circuit.proofs.Messages.{satisfied}
use Rattle.lzk_sha_circuit.proofs.Numbered.{gold_numbered}
use Rattle.lzk_sha_circuit.proofs.SomeCircuits.{some_sha_circuit}
use Rattle.lzk_sha_circuit.proofs.laws.circuit_laws.Goals as goal

pub returns-clause-some : goal.returns-clause-some
returns-clause-some c = some_sha_circuit

pub returns-clause-satisfied : goal.returns-clause-satisfied
returns-clause-satisfied c message few bytes = satisfied ops of_number p gold_numbered message few bytes
