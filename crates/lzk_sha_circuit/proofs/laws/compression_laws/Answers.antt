use Rattle.std.proofs.Common.{arith}
use Rattle.lzk_goldilocks.specs.Prime.{p}
use Rattle.lzk_goldilocks.specs.Elements.{ops, of_number}
use Rattle.lzk_sha_circuit.proofs.Compressed.{found_is_compressed, satisfied_is_compression}
use Rattle.lzk_sha_circuit.proofs.Exactly.{satisfied_exactly}
use Rattle.lzk_sha_circuit.proofs.Numbered.{gold_numbered}
use Rattle.lzk_sha_circuit.proofs.SomeCircuits.{some_compression}
use Rattle.lzk_sha_circuit.proofs.laws.compression_laws.Goals as goal

pub returns-clause-found : goal.returns-clause-found
returns-clause-found c = found_is_compressed ops of_number p gold_numbered (omega arith)

pub returns-clause-satisfied : goal.returns-clause-satisfied
returns-clause-satisfied c = satisfied_is_compression ops of_number p gold_numbered (omega arith)

pub returns-clause-exactly : goal.returns-clause-exactly
returns-clause-exactly c = satisfied_exactly ops of_number p gold_numbered (omega arith)

pub returns-clause-some : goal.returns-clause-some
returns-clause-some c = some_compression
