use Rattle.lzk_sha_circuit.specs.Circuits.{IsShaCircuit}
use Rattle.lzk_cmd_circuits.proofs.ShaFiles.{sha_filed}
use Rattle.std.proofs.lemmas.Result.{IfOk-from_err}
use Rattle.lzk_cmd_circuits.proofs.sha_circuits.sha_file.Goals as goal

pub returns : goal.returns
returns c =
    let made = c.in_ok-circuit.ensures in
    let is : IsShaCircuit c.args.len c.in_ok-circuit.circuit = record { version = made.version; publics = made.publics; privates = made.privates; layers = made.layers; outputs = made.outputs; reduced = made.reduced } in
    sha_filed c.args.len c.args.name.now c.in_ok-circuit.circuit c.file_over.result is c.file_over.ensures.file c.file_over.ensures.text

pub returns-in_err-circuit : goal.returns-in_err-circuit
returns-in_err-circuit c = IfOk-from_err _ _ c.from_residual.ensures.0
