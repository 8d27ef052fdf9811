use Rattle.lzk_cmd_files.specs.Decoded.{circuit_files}
use Rattle.lzk_cmd_files.specs.Seen.{seen}
use Rattle.lzk_cmd_files.specs.declared.circuits.Held.{Held}
use Rattle.lzk_cmd_files.proofs.Steps.{no_bytes, decoded}
use Rattle.std.proofs.lemmas.Result.{IfOk-from_err}
use Rattle.lzk_cmd_prove.proofs.circuits.read_shared.Goals as goal

pub returns-in_err-bytes-clause-gives : goal.returns-in_err-bytes-clause-gives
returns-in_err-bytes-clause-gives g c =
    no_bytes circuit_files (λ (held : Held). held.circuit) c.args.name.now (seen g.S.Shelf c.args.shelf.now) (seen g.S.Shelf c.read_file.new.shelf) _ c.in_err-bytes.field-0.0 c.in_err-bytes.ensures.gives c.from_residual.ensures.1

pub returns-in_err-bytes-clause-id : goal.returns-in_err-bytes-clause-id
returns-in_err-bytes-clause-id g c = IfOk-from_err _ _ c.from_residual.ensures.0

pub returns-in_err-bytes-clause-reads : goal.returns-in_err-bytes-clause-reads
returns-in_err-bytes-clause-reads g c = c.read_file.ensures.reads

pub returns-clause-reads : goal.returns-clause-reads
returns-clause-reads g c = c.read_file.ensures.reads

pub returns-then-len-lt-WORTH_A_THREAD-clause-reads : goal.returns-then-len-lt-WORTH_A_THREAD-clause-reads
returns-then-len-lt-WORTH_A_THREAD-clause-reads g c = c.read_file.ensures.reads

pub returns-clause-id : goal.returns-clause-id
returns-clause-id g c = c.held_beside.ensures.id

pub returns-then-len-lt-WORTH_A_THREAD-clause-id : goal.returns-then-len-lt-WORTH_A_THREAD-clause-id
returns-then-len-lt-WORTH_A_THREAD-clause-id g c = c.held_of.ensures.id

pub returns-clause-gives : goal.returns-clause-gives
returns-clause-gives g c = decoded circuit_files (λ (held : Held). held.circuit) c.args.name.now (seen g.S.Shelf c.args.shelf.now) (seen g.S.Shelf c.read_file.new.shelf) _ c.in_ok-bytes.bytes.items c.deref-else-len-lt-WORTH_A_THREAD.result.now c.deref-else-len-lt-WORTH_A_THREAD.ensures.value c.in_ok-bytes.ensures.gives c.held_beside.ensures.decodes

pub returns-then-len-lt-WORTH_A_THREAD-clause-gives : goal.returns-then-len-lt-WORTH_A_THREAD-clause-gives
returns-then-len-lt-WORTH_A_THREAD-clause-gives g c = decoded circuit_files (λ (held : Held). held.circuit) c.args.name.now (seen g.S.Shelf c.args.shelf.now) (seen g.S.Shelf c.read_file.new.shelf) _ c.in_ok-bytes.bytes.items c.deref.result.now c.deref.ensures.value c.in_ok-bytes.ensures.gives c.held_of.ensures.decodes
