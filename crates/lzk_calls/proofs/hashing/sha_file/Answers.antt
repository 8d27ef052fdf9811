use Rattle.lzk_sha_circuit.specs.Circuits.{IsShaCircuit}
use Rattle.lzk_calls.proofs.Hashes.{sha_filed}
use Rattle.lzk_calls.proofs.hashing.sha_file.Goals as goal

pub returns : goal.returns
returns c =
    let made = c.in_ok-circuit.ensures in
    let is : IsShaCircuit c.args.len c.in_ok-circuit.circuit = record {
      version = made.version;
      publics = made.publics;
      privates = made.privates;
      layers = made.layers;
      outputs = made.outputs;
      reduced = made.reduced;
    } in
    sha_filed c.args.len c.in_ok-circuit.circuit c.encode.result is c.encode.ensures.file
