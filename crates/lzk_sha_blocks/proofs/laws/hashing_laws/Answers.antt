use Rattle.std.proofs.Common.{arith}
use Rattle.lzk_goldilocks.specs.Prime.{p}
use Rattle.lzk_goldilocks.specs.Elements.{ops, of_number}
use Rattle.lzk_sha_circuit.proofs.Numbered.{gold_numbered}
use Rattle.lzk_sha_blocks.proofs.HashLaws.{hashing_is_of_message}
use Rattle.lzk_sha_blocks.proofs.Filling.{are_hashing, has_digest}
use Rattle.lzk_sha_blocks.proofs.laws.hashing_laws.Goals as goal

pub returns-clause-message : goal.returns-clause-message
returns-clause-message c = hashing_is_of_message ops of_number p gold_numbered (omega arith)

pub returns-clause-satisfied : goal.returns-clause-satisfied
returns-clause-satisfied c message bytes = (are_hashing ops of_number p gold_numbered (omega arith) message bytes, has_digest ops of_number p gold_numbered (omega arith) message bytes)
