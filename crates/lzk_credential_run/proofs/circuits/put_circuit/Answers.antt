use Rattle.std.proofs.Common.{refl}
use Rattle.std.specs.Prelude.{string_bytes}
use Rattle.lzk_cmd_files.specs.Seen.{seen}
use Rattle.lzk_credential_run.specs.Circuits.{PutsCircuit}
use Rattle.lzk_credential_run.proofs.CircuitEnds.{no_file, file_put}
use Rattle.lzk_credential_run.proofs.Steps.{no_memory}
use Rattle.lzk_credential_run.proofs.circuits.put_circuit.Goals as goal

pub returns-in_err-bytes-clause-run : goal.returns-in_err-bytes-clause-run
returns-in_err-bytes-clause-run g c =
    no_file c.args.name.now c.args.circuit.now c.args.policy.now (seen g.S.Shelf c.args.shelf.now) c.in_err-bytes.field-0.0 _ c.in_err-bytes.ensures c.from_residual.ensures.1

pub returns-in_err-text-clause-run : goal.returns-in_err-text-clause-run
returns-in_err-text-clause-run g c =
    no_memory (PutsCircuit c.args.name.now c.args.circuit.now c.args.policy.now) (seen g.S.Shelf c.args.shelf.now) (seen g.S.Shelf c.args.shelf.now) _ refl c.from_residual-in_err-text.ensures.1

pub returns-clause-run : goal.returns-clause-run
returns-clause-run g c =
    file_put c.args.name.now c.args.circuit.now c.args.policy.now c.in_ok-bytes.bytes.items c.deref.result.now (string_bytes c.in_ok-text.text) (seen g.S.Shelf c.args.shelf.now) (seen g.S.Shelf c.put_file.new.shelf) c.put_file.result
    c.in_ok-bytes.ensures c.deref.ensures.value c.in_ok-text.ensures c.put_file.ensures.puts
