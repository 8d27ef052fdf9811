use Rattle.std.proofs.Common.{ℕ, List}
use Rattle.lzk_circbytes.specs.declared.any.AnyCircuit.{AnyCircuit}
use Rattle.lzk_outside.specs.Outside.{Files}
use Rattle.lzk_cmd_files.specs.Decoded.{circuit_files}
use Rattle.lzk_cmd_files.specs.Ends.{End, Stop}
use Rattle.lzk_cmd_circuits.specs.Evaluated.{EvalAny, EvalRun}
use Rattle.lzk_cmd_files.specs.Seen.{seen}
use Rattle.lzk_cmd_files.proofs.Laws as laws
use Rattle.lzk_cmd_files.proofs.Steps.{ends, then}
use Rattle.lzk_cmd_files.proofs.Sights.{reads_then}
use Rattle.lzk_cmd_circuits.proofs.evaluating.eval.Goals as goal

-- the walk that has the circuit
abbrev next : List ℕ → List ℕ → Files → Stop → End → AnyCircuit → Type 0
next public private files stop end c = EvalAny c public private files stop end

pub returns-in_err-held-clause-walks : goal.returns-in_err-held-clause-walks
unfolding EvalRun
returns-in_err-held-clause-walks g c =
    ends circuit_files (λ x. x) c.args.circuit.now 0 (next c.args.public_file.now c.args.private_file.now) ⊥ (seen g.S.Shelf c.args.shelf.now) (seen g.S.Shelf c.read_circuit.new.shelf) c.in_err-held.field-0.0 _ (laws.circuits.quiet c.args.circuit.now) c.in_err-held.ensures.reads c.in_err-held.ensures.gives c.from_residual.ensures.1

pub returns-clause-walks : goal.returns-clause-walks
unfolding EvalRun
returns-clause-walks g c =
    then circuit_files (λ x. x) c.args.circuit.now 0 (next c.args.public_file.now c.args.private_file.now) ⊥ (seen g.S.Shelf c.args.shelf.now) (seen g.S.Shelf c.read_circuit.new.shelf) (seen g.S.Shelf c.eval_any.new.shelf) c.in_ok-held.held c.eval_any.result c.in_ok-held.ensures.reads c.in_ok-held.ensures.gives c.eval_any.ensures.walks

pub returns-in_err-held-clause-reads : goal.returns-in_err-held-clause-reads
returns-in_err-held-clause-reads g c = c.read_circuit.ensures.reads

pub returns-clause-reads : goal.returns-clause-reads
returns-clause-reads g c = reads_then (seen g.S.Shelf c.args.shelf.now) (seen g.S.Shelf c.read_circuit.new.shelf) (seen g.S.Shelf c.eval_any.new.shelf) c.read_circuit.ensures.reads c.eval_any.ensures.reads
