use Rattle.std.proofs.Common.{arith}
use Rattle.lzk_goldilocks.specs.Prime.{p}
use Rattle.lzk_goldilocks.specs.Elements.{ops, of_number}
use Rattle.lzk_sha_circuit.specs.Places.{message_places}
use Rattle.lzk_sha_circuit.proofs.Numbered.{gold_numbered}
use Rattle.lzk_sha_circuit.proofs.Parts.{parts_of}
use Rattle.lzk_sha_circuit.proofs.Messages.{digest_spelled}
use Rattle.lzk_sha_circuit.proofs.laws.digest_laws.Goals as goal

pub returns : goal.returns
returns c len public private few short long zeros =
    digest_spelled ops of_number p gold_numbered (omega arith) len few public private long (parts_of ops of_number (message_places len) public private zeros) short
