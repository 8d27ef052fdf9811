use Rattle.lzk_cmd_files.specs.Decoded.{circuit_files}
use Rattle.lzk_cmd_files.specs.Seen.{seen}
use Rattle.lzk_cmd_files.proofs.Steps.{no_bytes, decoded}
use Rattle.lzk_cmd_files.proofs.circuits.read_circuit.Goals as goal

pub returns-in_err-bytes-clause-gives : goal.returns-in_err-bytes-clause-gives
returns-in_err-bytes-clause-gives g c =
    no_bytes circuit_files (λ x. x) c.args.name.now (seen g.S.Shelf c.args.shelf.now) (seen g.S.Shelf c.read_file.new.shelf) _ c.in_err-bytes.field-0.0 c.in_err-bytes.ensures.gives c.from_residual.ensures.1

pub returns-clause-gives : goal.returns-clause-gives
returns-clause-gives g c =
    decoded circuit_files (λ x. x) c.args.name.now (seen g.S.Shelf c.args.shelf.now) (seen g.S.Shelf c.read_file.new.shelf) _ c.in_ok-bytes.bytes.items c.deref.result.now c.deref.ensures.value c.in_ok-bytes.ensures.gives c.circuit_of.ensures

pub returns-in_err-bytes-clause-reads : goal.returns-in_err-bytes-clause-reads
returns-in_err-bytes-clause-reads g c = c.read_file.ensures.reads

pub returns-clause-reads : goal.returns-clause-reads
returns-clause-reads g c = c.read_file.ensures.reads
