use Rattle.lzk_cmd_files.specs.Seen.{seen}
use Rattle.lzk_credential_run.specs.Circuits.{PutsCircuit}
use Rattle.lzk_credential_run.specs.Ends.{NothingPut}
use Rattle.lzk_credential_run.specs.Files.{policy_files}
use Rattle.lzk_credential_run.proofs.CircuitEnds.{puts_circuit_later}
use Rattle.lzk_credential_run.proofs.Steps.{ended, goes_on, nothing_later}
use Rattle.lzk_credential_run.proofs.circuits.circuit.Goals as goal

pub returns-in_err-read-clause-run : goal.returns-in_err-read-clause-run
returns-in_err-read-clause-run g c =
    let reads = c.in_err-read.ensures.reads in
    ended policy_files c.args.policy.now (PutsCircuit c.args.policy.now c.args.circuit.now) (λ p. p) NothingPut (seen g.S.Shelf c.args.shelf.now) (seen g.S.Shelf c.read_policy.new.shelf) c.in_err-read.field-0.0 _ reads.files reads c.in_err-read.ensures.gives c.from_residual.ensures.1

pub returns-clause-run : goal.returns-clause-run
returns-clause-run g c =
    let old = seen g.S.Shelf c.args.shelf.now in
    let mid = seen g.S.Shelf c.read_policy.new.shelf in
    let new = seen g.S.Shelf c.put_circuit.new.shelf in
    let reads = c.in_ok-read.ensures.reads in
    goes_on policy_files c.args.policy.now (PutsCircuit c.args.policy.now c.args.circuit.now) (λ p. p) NothingPut old mid new c.in_ok-read.read c.put_circuit.result reads c.in_ok-read.ensures.gives
    (puts_circuit_later c.args.policy.now c.args.circuit.now c.in_ok-read.read) (nothing_later old mid new reads) c.put_circuit.ensures.run
